use Rattle.std.proofs.Common.{◌≡◌, All, length}
use Rattle.fsm_io.specs.Reading.{LinesView, at_start}
use Rattle.editor_session.proofs.seating.lines_for.Given as goal

-- the lines so far
abbrev pub invariant-inputs : goal.invariant-inputs
invariant-inputs l = (length l.all.items ≡ l.counter) × All (λ (lines : LinesView). lines ≡ at_start l.budget) l.all.items
