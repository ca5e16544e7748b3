use Rattle.std.proofs.Common.{◌≡◌, ◌≤◌, ℕ, List, Option}
use Rattle.fsm_io.specs.Reading.{size_of}
use Rattle.lane_session.specs.Running.{IsRest}
use Rattle.lane_session.proofs.session.LaneSession.answer_rest.Given as goal

-- each line told so far has its reply
abbrev pub invariant-lines : goal.invariant-lines
invariant-lines g l = record {
  rest : (budget : ℕ) (left0 held0 : Option (List ℕ)) → IsRest g.V.Replying.replies l.fn.self.seat budget left0 (g.S.Source.left l.fn.source) held0 (g.K.Sink.held l.fn.sink) l.fn.self.lines
      → IsRest g.V.Replying.replies l.fn.self.seat budget left0 (g.S.Source.left l.source) held0 (g.K.Sink.held l.sink) l.self.lines;
  seat : l.self.seat ≡ l.fn.self.seat;
  later_input : g.S.Source.faults l.fn.source ≤ g.S.Source.faults l.source;
  later_output : g.K.Sink.faults l.fn.sink ≤ g.K.Sink.faults l.sink;
}

abbrev pub decreases-lines : goal.decreases-lines
decreases-lines g l = size_of l.self.lines
