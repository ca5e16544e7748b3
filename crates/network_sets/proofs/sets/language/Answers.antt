use Rattle.std.proofs.Common.{◌∙◌}
use Rattle.network_sets.proofs.Inside.{all_distinct}
use Rattle.network_sets.proofs.sets.language.Goals as goal

pub of-requires-clause-distinct : goal.of-requires-clause-distinct
of-requires-clause-distinct c = rw (c.deref.ensures.value ∙ c.in_ok-letters.ensures) (all_distinct c.args.symbols.now c.requires.distinct)

pub of-requires-clause-all : goal.of-requires-clause-all
of-requires-clause-all c x used = rw (c.deref.ensures.value ∙ c.in_ok-letters.ensures) (c.requires.only x used)

pub returns : goal.returns
returns c = rw (c.deref.ensures.value ∙ c.in_ok-letters.ensures) at c.of.ensures
