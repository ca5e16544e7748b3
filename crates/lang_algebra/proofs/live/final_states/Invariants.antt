use Rattle.lang_algebra.proofs.Alive.{AreFinalsBelow}
use Rattle.lang_algebra.proofs.live.final_states.Given as goal

abbrev pub invariant-loop-state : goal.invariant-loop-state
invariant-loop-state l = AreFinalsBelow l.finals l.state l.states
