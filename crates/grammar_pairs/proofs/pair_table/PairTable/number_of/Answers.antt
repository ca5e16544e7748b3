use Rattle.std.proofs.Common.{sym}
use Rattle.grammar_pairs.proofs.Found.{found_at, own_pair, pair_eq, same_pair}
use Rattle.grammar_pairs.proofs.pair_table.PairTable.number_of.Goals as goal

pub returns-in-Some : goal.returns-in-Some
returns-in-Some c = rw (← c.self.view_is) (found_at pair_eq same_pair own_pair c.args.pair c.self.inside.pairs.keys c.in-Some.place (sym c.in-Some.ensures.index))
