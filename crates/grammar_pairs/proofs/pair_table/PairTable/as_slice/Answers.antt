use Rattle.grammar_pairs.proofs.Found.{pairs_distinct}
use Rattle.grammar_pairs.proofs.pair_table.PairTable.as_slice.Goals as goal

pub returns-clause-distinct : goal.returns-clause-distinct
returns-clause-distinct c = rw (← c.self.view_is) (pairs_distinct c.self.inside.pairs.keys c.as_slice.ensures.unique)
