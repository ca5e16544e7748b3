use Rattle.std.proofs.Common.{ap, ◌∙◌}
use Rattle.std.specs.Option.{option_map}
use Rattle.att_text.specs.Views.{said_seen}
use Rattle.att_text.proofs.Lines.{said_five, said_four}
use Rattle.att_text.proofs.fields.four_said.Goals as goal

pub returns-in-Some : goal.returns-in-Some
returns-in-Some c = ap (option_map said_seen) c.none_said.ensures ∙ said_five c.args.from.now c.args.to.now c.args.upper.now c.args.behind.now c.in-Some.lower.now c.in-Some.weight.now c.in-Some.ensures.0 c.in-Some.ensures.1

pub returns-in-None : goal.returns-in-None
returns-in-None c = c.arc_of.ensures ∙ said_four c.args.from.now c.args.to.now c.args.upper.now c.args.behind.now c.in-None.ensures
