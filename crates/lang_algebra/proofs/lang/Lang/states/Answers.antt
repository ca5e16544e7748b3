use Rattle.std.proofs.Common.{subst}
use Rattle.fsa.specs.Complete.{Accepts}
use Rattle.lang_algebra.specs.Languages.{IsFewestCount}
use Rattle.lang_algebra.proofs.Counted.{fewest_count}
use Rattle.lang_algebra.proofs.lang.Lang.states.Goals as goal

pub returns : goal.returns
returns g c = subst (λ d. IsFewestCount d.letters (Accepts d) c.states.result) c.self.view_is
    (fewest_count c.self.inside.dfa c.states.result c.self.invariant.0 c.self.invariant.1 c.states.ensures.number)
