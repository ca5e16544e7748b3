use Rattle.std.proofs.Common.{◌≡◌}
use Rattle.fsa.specs.Arcs.{HasArcs}
use Rattle.fsa.proofs.Arcs.{IsBefore}
use Rattle.fsa.proofs.complete.Dfa.add_row.Given as goal

abbrev pub invariant-loop-place : goal.invariant-loop-place
invariant-loop-place g l = (l.fsa.finals ≡ l.self.finals) × HasArcs l.self (IsBefore l.state l.place) l.fsa.edges
