use Rattle.body_equality.proofs.Same.{Goes}
use Rattle.body_equality.specs.RenumberedGrammars.{part_behind, renumbered_behind}
use Rattle.body_equality.proofs.parts.same_parts.Given as goal

-- whether these are the same turns on what is left of both
abbrev pub invariant-places : goal.invariant-places
invariant-places l = Goes part_behind (renumbered_behind l.numbers) l.others l.parts l.place
