use Rattle.body_equality.proofs.Same.{Goes}
use Rattle.body_equality.specs.RenumberedGrammars.{renumbered_set}
use Rattle.grammar_pairs.specs.Plain.{set_of}
use Rattle.body_equality.proofs.sets.same_sets.Given as goal

-- whether these are the same turns on what is left of both
abbrev pub invariant-places : goal.invariant-places
invariant-places l = Goes set_of (renumbered_set l.numbers) l.others l.sets l.place
