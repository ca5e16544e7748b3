use Rattle.regex_ast.specs.declared.expr.Atom.{Atom}
use Rattle.body_equality.specs.Renumbered.{renumbered}
use Rattle.body_equality.proofs.Same.{Goes}
use Rattle.body_equality.proofs.sets.same_symbols.Given as goal

-- whether these are the same turns on what is left of both
abbrev pub invariant-places : goal.invariant-places
invariant-places l = Goes (λ (a : Atom). a) (renumbered l.numbers) l.others l.symbols l.place
