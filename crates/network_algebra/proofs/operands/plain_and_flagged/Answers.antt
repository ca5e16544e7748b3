use Rattle.std.proofs.Common.{refl}
use Rattle.network_algebra.proofs.Conditions.{plain_letters, resolved_symbols}
use Rattle.network_algebra.proofs.operands.plain_and_flagged.Goals as goal

pub returns-then-has_no_conditions : goal.returns-then-has_no_conditions
returns-then-has_no_conditions c =
    let f = c.plain-first.result in
    (refl, c.plain-first.ensures.relation, (λ u w. (λ h. h, λ h. h)), (λ symbols uses. plain_letters symbols c.args.first f c.plain-first.ensures.net uses), (λ symbols h. h))

pub returns : goal.returns
returns c =
    let m = c.in_ok-second.second in
    (refl, (λ u w. (λ h. h, λ h. h)), c.in_ok-second.ensures.relation, (λ symbols h. h), resolved_symbols c.args.second m c.in_ok-second.ensures.upper c.in_ok-second.ensures.lower)
