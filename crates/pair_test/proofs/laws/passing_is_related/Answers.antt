use Rattle.std.proofs.Common.{refl}
use Rattle.fsm_base.specs.declared.letters.Pair.{Pair}
use Rattle.two_level.specs.Rules.{Holds}
use Rattle.pair_test.proofs.Decided.{holds_decided}
use Rattle.pair_test.proofs.Keeping.{keeps_back}
use Rattle.pair_test.proofs.laws.passing_is_related.Goals as goal

pub returns : goal.returns
returns c = λ pairs rules p over passes. (
  p,
  (over, λ r among. keeps_back (λ (x : Pair). x.up) (λ x. x.low) (Holds r.contexts.items) r.pair p (holds_decided r.contexts.items) r.kind (λ broken. passes r among broken.0 broken.1)),
  refl,
  refl,
)
