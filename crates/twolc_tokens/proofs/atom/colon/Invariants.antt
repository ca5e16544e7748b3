use Rattle.std.proofs.Common.{◌-◌, length}
use Rattle.twolc_tokens.proofs.Colons.{SoFar}
use Rattle.twolc_tokens.proofs.atom.colon.Given as goal

abbrev pub invariant-bytes : goal.invariant-bytes
invariant-bytes l = SoFar l.atom l.place l.escaped

abbrev pub decreases-bytes : goal.decreases-bytes
decreases-bytes l = length l.initial.atom - l.place
