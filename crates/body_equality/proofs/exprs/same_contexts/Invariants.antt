use Rattle.body_equality.proofs.Same.{Goes}
use Rattle.body_equality.specs.RenumberedGrammars.{context_alone, renumbered_alone}
use Rattle.body_equality.proofs.exprs.same_contexts.Given as goal

-- whether these are the same turns on what is left of both
abbrev pub invariant-places : goal.invariant-places
invariant-places l = Goes context_alone (renumbered_alone l.numbers) l.others l.contexts l.place
