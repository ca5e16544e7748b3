use Rattle.std.proofs.lemmas.Result.{IfOk-weaker}
use Rattle.network_algebra.proofs.Conditions.{resolved_symbols}
use Rattle.network_sets.proofs.Conditions.{letters_plain_above, letters_plain_below, own_relation, own_symbols, plain_above, plain_below}
use Rattle.network_sets.proofs.conditional.compose_flagged.Goals as goal

pub returns-then-has_no_conditions-clause-letters : goal.returns-then-has_no_conditions-clause-letters
returns-then-has_no_conditions-clause-letters c =
    let m = c.net-below.result.now in
    IfOk-weaker _ _ _ (λ n. letters_plain_below c.args.x.now c.args.y.now m n (own_symbols c.args.y.now m c.net-below.ensures (c.has_no_conditions.ensures c.if-has_no_conditions.true))) c.with_plain_below.ensures.letters

pub returns-then-has_no_conditions-clause-meaning : goal.returns-then-has_no_conditions-clause-meaning
returns-then-has_no_conditions-clause-meaning c =
    let m = c.net-below.result.now in
    IfOk-weaker _ _ _ (λ n. plain_below c.args.x.now c.args.y.now m n (own_relation c.args.y.now m c.net-below.ensures (c.has_no_conditions.ensures c.if-has_no_conditions.true))) c.with_plain_below.ensures.meaning

pub returns-then-has_no_conditions-2-clause-letters : goal.returns-then-has_no_conditions-2-clause-letters
returns-then-has_no_conditions-2-clause-letters c =
    let m = c.net-above.result.now in
    IfOk-weaker _ _ _ (λ n. letters_plain_above c.args.x.now c.args.y.now m n (own_symbols c.args.x.now m c.net-above.ensures (c.has_no_conditions-2.ensures c.if-has_no_conditions-2.true))) c.with_plain_above.ensures.letters

pub returns-then-has_no_conditions-2-clause-meaning : goal.returns-then-has_no_conditions-2-clause-meaning
returns-then-has_no_conditions-2-clause-meaning c =
    let m = c.net-above.result.now in
    IfOk-weaker _ _ _ (λ n. plain_above c.args.x.now c.args.y.now m n (own_relation c.args.x.now m c.net-above.ensures (c.has_no_conditions-2.ensures c.if-has_no_conditions-2.true))) c.with_plain_above.ensures.meaning

pub returns-in_ok-resolve-clause-letters : goal.returns-in_ok-resolve-clause-letters
returns-in_ok-resolve-clause-letters c =
    let m = c.in_ok-resolve.field-0 in
    IfOk-weaker _ _ _ (λ n. letters_plain_below c.args.x.now c.args.y.now m n (resolved_symbols c.args.y.now m c.in_ok-resolve.ensures.upper c.in_ok-resolve.ensures.lower)) c.with_plain_below-then-states-2.ensures.letters

pub returns-in_ok-resolve-clause-meaning : goal.returns-in_ok-resolve-clause-meaning
returns-in_ok-resolve-clause-meaning c =
    let m = c.in_ok-resolve.field-0 in
    IfOk-weaker _ _ _ (λ n. plain_below c.args.x.now c.args.y.now m n c.in_ok-resolve.ensures.relation) c.with_plain_below-then-states-2.ensures.meaning

pub returns-in_ok-resolve-2-clause-letters : goal.returns-in_ok-resolve-2-clause-letters
returns-in_ok-resolve-2-clause-letters c =
    let m = c.in_ok-resolve-2.field-0 in
    IfOk-weaker _ _ _ (λ n. letters_plain_above c.args.x.now c.args.y.now m n (resolved_symbols c.args.x.now m c.in_ok-resolve-2.ensures.upper c.in_ok-resolve-2.ensures.lower)) c.with_plain_above-else-states-2.ensures.letters

pub returns-in_ok-resolve-2-clause-meaning : goal.returns-in_ok-resolve-2-clause-meaning
returns-in_ok-resolve-2-clause-meaning c =
    let m = c.in_ok-resolve-2.field-0 in
    IfOk-weaker _ _ _ (λ n. plain_above c.args.x.now c.args.y.now m n c.in_ok-resolve-2.ensures.relation) c.with_plain_above-else-states-2.ensures.meaning
