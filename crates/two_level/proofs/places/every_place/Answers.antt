use Rattle.std.proofs.Common.{◌∙◌}
use Rattle.two_level.proofs.MarkedStrings.{marked_distinct}
use Rattle.two_level.proofs.places.every_place.Goals as goal

pub of-requires-clause-distinct : goal.of-requires-clause-distinct
of-requires-clause-distinct c = rw (c.deref.ensures.value ∙ c.in_ok-letters.ensures) (marked_distinct c.args.pairs.now c.requires)

pub of-requires-clause-all : goal.of-requires-clause-all
of-requires-clause-all c x used = rw (c.deref.ensures.value ∙ c.in_ok-letters.ensures) (c.in_ok-places.ensures.letters x used)
