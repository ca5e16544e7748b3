use Rattle.std.proofs.Common.{◌≤◌, length, arith, sym}
use Rattle.regex_tokens.proofs.Lists.{prefix_len_is}
use Rattle.twolc_tokens.proofs.bytes.front_len.Goals as goal

pub returns-else-has : goal.returns-else-has
returns-else-has c = prefix_len_is _ _ 0 _ c.front.invariant.0 c.front.invariant.1 (λ _. sym c.if-has.ensures)

pub returns-after-front : goal.returns-after-front
returns-after-front c = prefix_len_is _ _ 0 _ c.front.invariant.0 c.front.invariant.1 (λ h. let past : length c.args.bytes.now ≤ c.front.len = c.front-test.false in absurd (omega arith))
