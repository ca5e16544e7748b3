use Rattle.lookup.proofs.Turning.{AreFree}
use Rattle.lookup.proofs.turns.find_turn.Given as goal

abbrev pub invariant-loop-edge : goal.invariant-loop-edge
invariant-loop-edge g l = AreFree l.edges l.edge-index
