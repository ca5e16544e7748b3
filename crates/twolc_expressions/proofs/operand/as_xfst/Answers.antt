use Rattle.std.proofs.Common.{sym, ◌∙◌, arith}
use Rattle.twolc_expressions.proofs.Tokens.{more, failed, ended}
use Rattle.twolc_expressions.proofs.operand.as_xfst.Goals as goal

pub tokens-preserved : goal.tokens-preserved
tokens-preserved c = more c.args.tokens.now c.tokens.placed-index c.tokens.power c.is_caret-power.result c.placed-item.result c.tokens.found.items c.push.new.self.items c.in-Some.token (omega arith) c.placed-item.is c.in_ok-push.ensures.items (sym c.in-Some.is ∙ c.in_ok-token.ensures) c.is_caret-power.ensures c.tokens.invariant

pub returns-in_default : goal.returns-in_default
returns-in_default c = failed c.args.tokens.now c.tokens.placed-index c.tokens.power c.placed-item.result c.tokens.found.items (omega arith) c.placed-item.is (sym c.in_default.is ∙ c.in_ok-token.ensures) c.tokens.invariant

pub returns : goal.returns
returns c = ended c.args.tokens.now c.tokens.placed-index c.tokens.power c.tokens.found.items (omega arith) c.tokens.invariant
