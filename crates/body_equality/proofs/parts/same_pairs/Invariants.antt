use Rattle.body_equality.proofs.Same.{Goes}
use Rattle.body_equality.specs.RenumberedGrammars.{renumbered_pair}
use Rattle.grammar_pairs.specs.Plain.{pair_of}
use Rattle.body_equality.proofs.parts.same_pairs.Given as goal

-- whether these are the same turns on what is left of both
abbrev pub invariant-places : goal.invariant-places
invariant-places l = Goes pair_of (renumbered_pair l.numbers) l.others l.pairs l.place
