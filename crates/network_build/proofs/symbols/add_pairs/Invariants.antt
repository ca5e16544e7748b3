use Rattle.std.proofs.Common.{take}
use Rattle.network_build.proofs.Uses.{AreGiven, Relates}
use Rattle.network_build.proofs.symbols.add_pairs.Given as goal

-- the symbols so far
abbrev pub invariant-edges : goal.invariant-edges
invariant-edges l = AreGiven Relates l.fn.symbols l.symbols (take l.edge-index l.edges)
