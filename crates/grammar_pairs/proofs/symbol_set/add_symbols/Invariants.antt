use Rattle.std.proofs.Common.{map, take}
use Rattle.grammar_pairs.specs.Plain.{symbol_in}
use Rattle.grammar_pairs.proofs.Growing.{HasMore}
use Rattle.grammar_pairs.proofs.symbol_set.add_symbols.Given as goal

-- the symbols so far
abbrev pub invariant-leaves : goal.invariant-leaves
invariant-leaves l = HasMore l.fn.set l.set (map symbol_in (take l.leaf-index l.leaves))
