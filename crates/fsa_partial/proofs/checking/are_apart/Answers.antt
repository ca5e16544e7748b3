use Rattle.std.proofs.lemmas.Result.{IfOk-weaker}
use Rattle.fsa_partial.proofs.Searched.{all_apart}
use Rattle.fsa_partial.proofs.checking.are_apart.Goals as goal

pub returns : goal.returns
returns g c =
    IfOk-weaker c.are_distinct.result _ _
    (λ are is true ok live. all_apart c.args.m.now c.in-Some.classes.items (rw c.in-Some.is at c.in_ok-found.ensures.count) (is true) ((rw c.in-Some.is at c.in_ok-found.ensures.apart) ok live))
    (rw c.deref.ensures.value at c.are_distinct.ensures)
