use Rattle.std.proofs.Common.{take}
use Rattle.grammar_pairs.specs.Tables.{AreNumbers}
use Rattle.grammar_pairs.proofs.pair_table.PairTable.numbers.Given as goal

-- the numbers so far
abbrev pub invariant-places : goal.invariant-places
invariant-places l = AreNumbers (take l.place l.self) l.numbers.items
