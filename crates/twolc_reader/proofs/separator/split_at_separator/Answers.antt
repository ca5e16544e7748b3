use Rattle.std.proofs.Common.{arith}
use Rattle.twolc_reader.proofs.RuleSplits.{place_below, split_found, split_none}
use Rattle.twolc_reader.proofs.separator.split_at_separator.Goals as goal

pub returns-in_default : goal.returns-in_default
returns-in_default c = split_none c.args.separator c.args.tokens.now c.in_default.ensures

pub split_at-requires : goal.split_at-requires
split_at-requires c = omega (arith, place_below c.args.separator c.args.tokens.now c.in-Some.place c.in-Some.ensures)

pub split_at-requires-2 : goal.split_at-requires-2
split_at-requires-2 c = omega (arith, place_below c.args.separator c.args.tokens.now c.in-Some.place c.in-Some.ensures)

pub returns : goal.returns
returns c = rw (c.split_at.ensures.front, c.split_at-2.ensures.back, c.split_at.ensures.back) (split_found c.args.separator c.args.tokens.now c.in-Some.place c.in-Some.ensures)
