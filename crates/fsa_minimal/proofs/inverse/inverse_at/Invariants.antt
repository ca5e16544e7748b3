use Rattle.fsa_minimal.specs.Inverses.{IsInverse}
use Rattle.fsa_minimal.proofs.inverse.inverse_at.Given as goal

abbrev pub invariant-loop-state : goal.invariant-loop-state
invariant-loop-state g l = IsInverse l.a l.place l.state l.last.items l.before.items
