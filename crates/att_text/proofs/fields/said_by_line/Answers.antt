use Rattle.std.proofs.Common.{◌∙◌}
use Rattle.att_text.proofs.Lines.{said_alone, said_behind}
use Rattle.att_text.proofs.fields.said_by_line.Goals as goal

pub returns-in-Some : goal.returns-in-Some
returns-in-Some c = c.arc_said.ensures ∙ said_behind c.args.line.now c.in-Some.from.now c.in-Some.behind.now c.in-Some.ensures.0 c.in-Some.ensures.1

pub returns-in-None : goal.returns-in-None
returns-in-None c = c.final_said.ensures ∙ said_alone c.args.line.now c.in-None.ensures
