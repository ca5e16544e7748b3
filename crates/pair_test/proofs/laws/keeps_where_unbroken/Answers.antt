use Rattle.fsm_base.specs.declared.letters.Pair.{Pair}
use Rattle.two_level.specs.Rules.{Holds}
use Rattle.pair_test.proofs.Decided.{holds_decided}
use Rattle.pair_test.proofs.Keeping.{keeps_back, keeps_there}
use Rattle.pair_test.proofs.laws.keeps_where_unbroken.Goals as goal

pub returns : goal.returns
returns c = λ r p. (
  keeps_there (λ (x : Pair). x.up) (λ x. x.low) (Holds r.contexts.items) r.pair p r.kind,
  keeps_back (λ (x : Pair). x.up) (λ x. x.low) (Holds r.contexts.items) r.pair p (holds_decided r.contexts.items) r.kind,
)
