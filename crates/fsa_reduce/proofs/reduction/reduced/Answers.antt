use Rattle.std.proofs.lemmas.Result.{IfOk-weaker}
use Rattle.fsa_reduce.proofs.reduction.reduced.Goals as goal

pub returns-in_ok-without_empty-clause-letters : goal.returns-in_ok-without_empty-clause-letters
returns-in_ok-without_empty-clause-letters g c =
    IfOk-weaker c.merged_often-then-branch-2.result _ _ (λ m h x u. c.in_ok-m.ensures.letters x (c.in_ok-without_empty.ensures.letters x (h x u))) c.merged_often-then-branch-2.ensures.letters
