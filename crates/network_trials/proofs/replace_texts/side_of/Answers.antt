use Rattle.std.proofs.Common.{List, sym, subst, ◌∙◌}
use Rattle.fsm_base.specs.declared.letters.Bound.{Bound}
use Rattle.fsm_base.specs.declared.letters.Sym.{Sym}
use Rattle.network_algebra.specs.Networks.{UsesOnly}
use Rattle.network_sets.proofs.Inside.{all_distinct}
use Rattle.network_trials.proofs.replace_texts.side_of.Goals as goal

pub of-requires-clause-distinct : goal.of-requires-clause-distinct
of-requires-clause-distinct c = rw (c.deref-2.ensures.value ∙ c.in_ok-letters.ensures) (all_distinct c.symbols.result.now (rw c.symbols.ensures.symbols c.symbols.ensures.formed.distinct))

pub of-requires-clause-all : goal.of-requires-clause-all
of-requires-clause-all c = subst (λ (ls : List (Bound Sym)). UsesOnly ls c.in_ok-part.part) (c.deref.ensures.value ∙ sym c.deref-2.ensures.value) c.in_ok-part.ensures
