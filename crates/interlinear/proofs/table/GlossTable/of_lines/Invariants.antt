use Rattle.std.proofs.Common.{◌≡◌, ◌+◌, [], drop}
use Rattle.interlinear.specs.Glosses.{with_lines}
use Rattle.interlinear.proofs.table.GlossTable.of_lines.Given as goal

-- the entries so far, and what the other lines say
abbrev pub invariant-lines : goal.invariant-lines
invariant-lines l = record {
  counted : l.number ≡ l.line-index;
  so_far : with_lines l.table (l.line-index + 1) (drop l.line-index l.lines) ≡ with_lines [] 1 l.lines;
}
