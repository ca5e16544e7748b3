use Rattle.std.proofs.Common.{take}
use Rattle.network_build.proofs.Uses.{AreGiven, PartUses}
use Rattle.network_build.proofs.symbols.add_parts.Given as goal

-- the symbols so far
abbrev pub invariant-parts : goal.invariant-parts
invariant-parts l = AreGiven PartUses l.fn.symbols l.symbols (take l.part-index l.parts)
