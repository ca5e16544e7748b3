use Rattle.std.proofs.Common.{◌≡◌, ◌++◌, drop}
use Rattle.expr_leaves.specs.Leaves.{seen}
use Rattle.name_resolution.proofs.leaves.add_symbols.Given as goal

-- what was found, and what is in the other items
abbrev pub invariant-symbols : goal.invariant-symbols
invariant-symbols g l = seen l.found.items ++ (drop l.symbol-index l.symbols) ≡ seen l.fn.found.items ++ l.symbols
