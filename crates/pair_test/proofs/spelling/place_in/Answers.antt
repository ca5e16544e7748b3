use Rattle.std.proofs.Common.{sym}
use Rattle.grammar_pairs.proofs.Found.{found_at, missing, own_pair, pair_eq, same_pair}
use Rattle.pair_test.proofs.spelling.place_in.Goals as goal

pub unreachable-requires : goal.unreachable-requires
unreachable-requires c = missing pair_eq same_pair own_pair c.args.pair c.args.set.now.keys c.in-None.ensures.found c.requires

pub returns : goal.returns
returns c = found_at pair_eq same_pair own_pair c.args.pair c.args.set.now.keys c.in-Some.place (sym c.in-Some.ensures.index)
