use Rattle.std.proofs.Common.{take}
use Rattle.network_build.proofs.Uses.{AreGiven, RelatesLetter}
use Rattle.network_build.proofs.symbols.add_flagged.Given as goal

-- the symbols so far
abbrev pub invariant-edges : goal.invariant-edges
invariant-edges l = AreGiven RelatesLetter l.fn.symbols l.symbols (take l.edge-index l.edges)
