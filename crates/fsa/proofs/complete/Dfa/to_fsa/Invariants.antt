use Rattle.std.proofs.Common.{◌≡◌, ◌<◌}
use Rattle.fsa.specs.Arcs.{HasArcs}
use Rattle.fsa.proofs.complete.Dfa.to_fsa.Given as goal

abbrev pub invariant-loop-state : goal.invariant-loop-state
invariant-loop-state g l = (l.fsa.finals ≡ l.self.finals) × HasArcs l.self (λ s _. s < l.state) l.fsa.edges
