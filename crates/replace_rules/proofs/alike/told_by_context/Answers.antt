use Rattle.std.proofs.Common.{◌≡◌, length, ap, ◌∙◌}
use Rattle.std.proofs.lemmas.Result.{IfOk-weaker}
use Rattle.fsa.specs.Complete.{Accepts}
use Rattle.replace_rules.specs.Alike.{ContextIsLike, IsDivided, IsFiner, IsLike}
use Rattle.replace_rules.proofs.Told.{IfOk-both, finer_more, context_divided}
use Rattle.replace_rules.proofs.alike.told_by_context.Goals as goal

pub told_by-requires-2 : goal.told_by-requires-2
told_by-requires-2 c = ap length c.deref.ensures.value ∙ c.in_ok-by_left.ensures.divided.count

pub returns-clause-finer : goal.returns-clause-finer
returns-clause-finer c =
    let first = c.in_ok-by_left.by_left.items in
    IfOk-weaker c.told_by-2.result (λ new. IsFiner c.deref.result.now new.items) (λ new. IsFiner c.args.numbers.now new.items) (λ new second. finer_more c.args.numbers.now first new.items c.in_ok-by_left.ensures.finer (rw c.deref.ensures.value at second)) c.told_by-2.ensures.finer

pub returns-clause-divided : goal.returns-clause-divided
returns-clause-divided c =
    let bounds = c.args.bounds.now in
    let d = c.args.context.now in
    let first = c.in_ok-by_left.by_left.items in
    let between = c.deref.result.now in
    IfOk-both c.told_by-2.result (λ new. IsFiner between new.items) (λ new. IsDivided bounds new.items (IsLike (Accepts d.right))) (λ new. IsDivided bounds new.items (ContextIsLike d))
    (λ new finer divided. context_divided bounds d first new.items (rw c.deref.ensures.value at finer) c.in_ok-by_left.ensures.divided divided) c.told_by-2.ensures.finer c.told_by-2.ensures.divided
