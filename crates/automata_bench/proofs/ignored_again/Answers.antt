use Rattle.std.proofs.Common.{inl, inr, subst, List, Contains}
use Rattle.fsm_base.specs.declared.letters.Sym.{Sym}
use Rattle.automata_bench.proofs.ignored_again.Goals as goal

pub determine-requires-in-times-clause-all : goal.determine-requires-in-times-clause-all
determine-requires-in-times-clause-all g x used = elim (g.in_ok-mixed.ensures.letters x used) [
  | inl first ↦ subst (λ (letters : List Sym). Contains letters x) g.times.invariant (g.in_ok-to_fsa.ensures.letters x first)
  | inr second ↦ g.in_ok-one.ensures x second
]
