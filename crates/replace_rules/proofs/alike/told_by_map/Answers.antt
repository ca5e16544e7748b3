use Rattle.std.proofs.Common.{length, ap, ◌∙◌}
use Rattle.std.proofs.lemmas.Result.{IfOk-weaker}
use Rattle.replace_rules.specs.Alike.{IsFiner}
use Rattle.replace_rules.proofs.Told.{finer_more}
use Rattle.replace_rules.proofs.alike.told_by_map.Goals as goal

pub told_by-requires-2 : goal.told_by-requires-2
told_by-requires-2 c = ap length c.deref.ensures.value ∙ c.in_ok-by_centre.ensures.divided.count

pub returns-in-Some-clause-finer : goal.returns-in-Some-clause-finer
returns-in-Some-clause-finer c =
    let numbers = c.args.numbers.now in
    let first = c.in_ok-by_centre.by_centre.items in
    let second = c.in_ok-by_result.by_result.items in
    IfOk-weaker c.told_by-in-Some.result (λ new. IsFiner c.deref-in-Some.result.now new.items) (λ new. IsFiner numbers new.items)
    (λ new last. finer_more numbers first new.items c.in_ok-by_centre.ensures.finer (finer_more first second new.items (rw c.deref.ensures.value at c.in_ok-by_result.ensures.finer) (rw c.deref-in-Some.ensures.value at last))) c.told_by-in-Some.ensures.finer
