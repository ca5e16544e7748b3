use Rattle.twolc_reader.proofs.Splits.{ended_there, unended_there}
use Rattle.twolc_reader.proofs.one.split_semicolon.Goals as goal

pub returns-in_default : goal.returns-in_default
returns-in_default c = unended_there c.args.tokens.now c.in_default.ensures.first

pub returns : goal.returns
returns c = rw (c.split_at.ensures.front, c.split_at.ensures.back) (ended_there c.args.tokens.now c.in-Some.place c.in-Some.ensures.first)
