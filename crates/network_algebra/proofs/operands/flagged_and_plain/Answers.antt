use Rattle.std.proofs.Common.{refl}
use Rattle.network_algebra.proofs.Conditions.{plain_letters, resolved_symbols}
use Rattle.network_algebra.proofs.operands.flagged_and_plain.Goals as goal

pub returns-then-has_no_conditions : goal.returns-then-has_no_conditions
returns-then-has_no_conditions c =
    let f = c.plain-second.result in
    (refl, (λ u w. (λ h. h, λ h. h)), c.plain-second.ensures.relation, (λ symbols h. h), (λ symbols uses. plain_letters symbols c.args.second f c.plain-second.ensures.net uses))

pub returns : goal.returns
returns c =
    let m = c.in_ok-first.first in
    (refl, c.in_ok-first.ensures.relation, (λ u w. (λ h. h, λ h. h)), resolved_symbols c.args.first m c.in_ok-first.ensures.upper c.in_ok-first.ensures.lower, (λ symbols h. h))
