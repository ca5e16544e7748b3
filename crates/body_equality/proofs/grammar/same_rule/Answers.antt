use Rattle.std.proofs.lemmas.Result.{IfOk-weaker}
use Rattle.body_equality.proofs.Together.{rule_same}
use Rattle.body_equality.proofs.grammar.same_rule.Goals as goal

pub returns : goal.returns
returns c =
    let head = c.same_head.ensures.0 c.if-not-same_head.false in
    let told = rw (c.deref.ensures.value, c.deref-2.ensures.value) at c.same_contexts.ensures in
    IfOk-weaker c.same_contexts.result _ _ (λ same is. rule_same c.args.numbers.now c.args.other.now c.args.rule.now head same is) told
