use Rattle.std.proofs.Common.{◌∙◌}
use Rattle.att_text.proofs.Lines.{said_second, said_two}
use Rattle.att_text.proofs.fields.arc_said.Goals as goal

pub returns-in-Some : goal.returns-in-Some
returns-in-Some c = c.sides_said.ensures ∙ said_second c.args.from.now c.args.behind.now c.in-Some.to.now c.in-Some.sides.now c.in-Some.ensures.0 c.in-Some.ensures.1

pub returns-in-None : goal.returns-in-None
returns-in-None c = said_two c.args.from.now c.args.behind.now c.in-None.ensures
