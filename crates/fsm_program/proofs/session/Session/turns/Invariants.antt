use Rattle.std.proofs.Common.{◌≡◌, ◌≤◌, ℕ, List, Option}
use Rattle.fsm_io.specs.Reading.{size_of}
use Rattle.fsm_program.specs.Running.{Sofar}
use Rattle.fsm_program.specs.Steps.{steps}
use Rattle.fsm_program.proofs.session.Session.turns.Given as goal

-- each line told so far has its reply, where those before the first of these have theirs
abbrev pub invariant-lines : goal.invariant-lines
invariant-lines g l = record {
  same : l.self.look_up ≡ l.fn.self.look_up;
  sofar : (budget : ℕ) (left0 held0 : Option (List ℕ))
      → Sofar (steps l.fn.self.look_up) tt budget left0 (g.I.Source.left l.fn.input) held0 (g.O.Sink.held l.fn.output) l.fn.self.lines l.fn.self.outbox
      → Sofar (steps l.fn.self.look_up) tt budget left0 (g.I.Source.left l.input) held0 (g.O.Sink.held l.output) l.self.lines l.self.outbox;
  smaller : size_of l.self.lines ≤ size_of l.fn.self.lines;
  later_input : g.I.Source.faults l.fn.input ≤ g.I.Source.faults l.input;
  later_output : g.O.Sink.faults l.fn.output ≤ g.O.Sink.faults l.output;
}
