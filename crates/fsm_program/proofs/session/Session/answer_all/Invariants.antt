use Rattle.std.proofs.Common.{◌≡◌, ◌≤◌}
use Rattle.fsm_io.specs.Reading.{size_of}
use Rattle.fsm_program.specs.Running.{Sofar, most_taken}
use Rattle.fsm_program.specs.Steps.{steps}
use Rattle.fsm_program.proofs.session.Session.answer_all.Given as goal

-- each line told so far has its reply
abbrev pub invariant-lines : goal.invariant-lines
invariant-lines g l = record {
  same : l.self.look_up ≡ l.fn.self.look_up;
  sofar : Sofar (steps l.fn.self.look_up) tt most_taken (g.I.Source.left l.fn.input) (g.I.Source.left l.input) (g.O.Sink.held l.fn.output) (g.O.Sink.held l.output) l.self.lines l.self.outbox;
  later_input : g.I.Source.faults l.fn.input ≤ g.I.Source.faults l.input;
  later_output : g.O.Sink.faults l.fn.output ≤ g.O.Sink.faults l.output;
}

abbrev pub decreases-lines : goal.decreases-lines
decreases-lines g l = size_of l.self.lines
