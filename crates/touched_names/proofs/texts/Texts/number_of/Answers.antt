use Rattle.std.proofs.Common.{◌∙◌}
use Rattle.name_resolution.proofs.Texts.{numbered, not_numbered}
use Rattle.touched_names.proofs.texts.Texts.number_of.Goals as goal

pub returns-in-Some : goal.returns-in-Some
returns-in-Some c = rw (← c.self.view_is) (numbered c.args.text.now c.self.inside.texts.keys c.in-Some.place c.in-Some.ensures.index)

pub returns-in-None : goal.returns-in-None
returns-in-None c = rw (← c.self.view_is) (c.len.ensures.len ∙ not_numbered c.args.text.now c.self.inside.texts.keys c.in-None.ensures.found)
