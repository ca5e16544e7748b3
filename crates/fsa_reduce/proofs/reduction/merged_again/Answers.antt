use Rattle.std.proofs.lemmas.Result.{IfOk-weaker}
use Rattle.fsa_reduce.proofs.reduction.merged_again.Goals as goal

pub returns-clause-letters : goal.returns-clause-letters
returns-clause-letters g c = IfOk-weaker c.merged-2.result _ _ (λ m h x u. c.in_ok-m.ensures.letters x (h x u)) c.merged-2.ensures.letters
