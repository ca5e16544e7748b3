use Rattle.std.proofs.Common.{take}
use Rattle.flag_diacritics.specs.Idle.{AreIdle}
use Rattle.flag_diacritics.proofs.idle.are_idle.Given as goal

abbrev pub invariant-edges : goal.invariant-edges
invariant-edges l = AreIdle l.actions l.idle (take l.edge-index l.edges)
