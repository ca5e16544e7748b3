use Rattle.std.proofs.Common.{[], sym, subst}
use Rattle.fsa.specs.Complete.{Accepts, stop}
use Rattle.fsa.proofs.Paths.{stop_back}
use Rattle.lang_algebra.proofs.lang.Lang.has_empty.Goals as goal

pub is_final-requires : goal.is_final-requires
is_final-requires g c = c.self.invariant.0.start

pub returns : goal.returns
returns g c = (
  λ t. subst (λ d. Accepts d []) c.self.view_is (stop (c.is_final.ensures.0 t)),
  λ h. c.is_final.ensures.1 (stop_back c.self.inside.dfa 0 (subst (λ d. Accepts d []) (sym c.self.view_is) h)),
)
