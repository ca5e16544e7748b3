use Rattle.project_edits.specs.Lines.{Passes}
use Rattle.project_edits.proofs.lines.split_lines.Given as goal

abbrev pub invariant-lines : goal.invariant-lines
invariant-lines l = Passes l.content l.rest l._passed
