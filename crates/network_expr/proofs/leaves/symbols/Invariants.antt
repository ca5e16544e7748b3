use Rattle.std.proofs.Common.{take}
use Rattle.network_expr.proofs.LeafWords.{Spell}
use Rattle.network_expr.proofs.leaves.symbols.Given as goal

-- the leaves so far
abbrev pub invariant-leaves : goal.invariant-leaves
invariant-leaves l = Spell l.alphabet (take l.leaf-index l.leaves) l.letters.items
