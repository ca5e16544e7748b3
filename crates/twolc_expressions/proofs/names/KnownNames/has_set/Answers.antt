use Rattle.std.proofs.Common.{◌∙◌}
use Rattle.fsm_base.proofs.TableLemmas.{list_any-strings}
use Rattle.twolc_expressions.proofs.names.KnownNames.has_set.Goals as goal

pub returns : goal.returns
returns c = rw (← c.self.view_is) (c.contains.ensures ∙ list_any-strings c.args.name.now c.self.inside.sets.keys)
