use denote.Param.Send.{sendable}
use Rattle.std.proofs.Crossing.{crosses}
use Rattle.morph_c.proofs.Crossing.{held_send}
use Rattle.morph_c.proofs.held.Held.crosses.Goals as goal

pub may_cross-requires-send-T : goal.may_cross-requires-send-T
may_cross-requires-send-T c κs = let h = held_send in search (sendable, crosses) depth 20
