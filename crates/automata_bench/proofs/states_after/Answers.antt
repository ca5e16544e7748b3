use Rattle.std.proofs.Common.{List, subst, sym, ◌∙◌, Contains}
use Rattle.fsm_base.specs.declared.letters.Sym.{Sym}
use Rattle.automata_bench.proofs.states_after.Goals as goal

pub determine-requires-clause-all : goal.determine-requires-clause-all
determine-requires-clause-all g x uses =
    subst (λ (letters : List Sym). Contains letters x) (g.deref.ensures.value ∙ sym g.deref-in_default.ensures.value) (g.in_ok-m.ensures x uses)
