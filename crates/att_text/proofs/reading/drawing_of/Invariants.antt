use Rattle.std.proofs.Common.{length}
use denote.Shadow.{shadow}
use denote.Text.{Utf8}
use Rattle.att_text.proofs.Lines.{IsReading}
use Rattle.att_text.proofs.reading.drawing_of.Given as goal

abbrev pub invariant-lines : goal.invariant-lines
invariant-lines l = record {
  utf8 : shadow (Utf8 l.rest);
  reading : IsReading l.text l.initial.table l.rest l.number l.drawing.symbols l.table l.drawing.states l.drawing.edges.items l.drawing.finals.items;
}

abbrev pub decreases-lines : goal.decreases-lines
decreases-lines l = length l.rest
