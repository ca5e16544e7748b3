use Rattle.std.proofs.Common.{ℕ, List, Option, ◌≤◌}
use Rattle.fsm_io.specs.Reading.{size_of}
use Rattle.editor_session.specs.Reading.{HasHeard}
use Rattle.editor_session.proofs.Hearing.{Taking}
use Rattle.editor_session.proofs.payload.take_lines.Given as goal

-- so many lines were taken
abbrev pub invariant-lines : goal.invariant-lines
invariant-lines g l = record {
  taking : (left0 : Option (List ℕ)) (budget : ℕ) (heard : List (List ℕ)) → HasHeard left0 (g.I.Source.left l.fn.input) budget l.fn.lines heard → Taking left0 (g.I.Source.left l.input) budget l.lines heard l._taken l.most l.bytes.items l.lacks;
  smaller : size_of l.lines ≤ size_of l.fn.lines;
  later : g.I.Source.faults l.fn.input ≤ g.I.Source.faults l.input;
}
