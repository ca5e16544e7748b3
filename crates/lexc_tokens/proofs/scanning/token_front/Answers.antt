use Rattle.lexc_tokens.proofs.Fronts.{none_empty, expression_stands}
use Rattle.lexc_tokens.proofs.scanning.token_front.Goals as goal

pub returns-in_default : goal.returns-in_default
returns-in_default c = none_empty c.args.opens c.args.text.now c.in_default.ensures.cases

pub returns-then-first-eq60 : goal.returns-then-first-eq60
returns-then-first-eq60 c =
    expression_stands c.args.opens c.args.text.now c.in-Some.first.now c.in-Some.behind.now c.split_at.result.0.now c.in_ok-encode.field-0 c.inner_len-len.result c.min.result
    c.in-Some.ensures.cases.0 c.if-opens.true c.if-first-eq60.true c.inner_len-len.ensures.count c.split_at.ensures.front c.in_ok-encode.ensures c.min.ensures
