use Rattle.std.proofs.Common.{◌∙◌}
use Rattle.att_text.proofs.Lines.{said_both, said_third}
use Rattle.att_text.proofs.fields.sides_said.Goals as goal

pub returns-in-Some : goal.returns-in-Some
returns-in-Some c = c.four_said.ensures ∙ said_third c.args.from.now c.args.to.now c.args.sides.now c.in-Some.upper.now c.in-Some.behind.now c.in-Some.ensures.0 c.in-Some.ensures.1

pub returns-in-None : goal.returns-in-None
returns-in-None c = c.arc_of.ensures ∙ said_both c.args.from.now c.args.to.now c.args.sides.now c.in-None.ensures
