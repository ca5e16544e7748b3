use Rattle.att_text.proofs.Beside.{extends_then}
use Rattle.att_text.proofs.Lines.{reading_more, reading_none}
use Rattle.att_text.proofs.reading.drawing_of.Goals as goal

pub lines-init : goal.lines-init
lines-init c = record {
  utf8 = c.utf8.text;
  reading =
      reading_none c.args.text.now c.args.table.now c.in_ok-drawing.drawing.symbols c.in_ok-drawing.drawing.states c.in_ok-drawing.drawing.edges.items c.in_ok-drawing.drawing.finals.items
      c.in_ok-drawing.ensures.symbols (c.in_ok-drawing.ensures.drawn c.args.table.now);
}

pub returns-in-Err-clause-grows : goal.returns-in-Err-clause-grows
returns-in-Err-clause-grows c = extends_then c.args.table.now c.lines.table c.add_line.new.table c.lines.invariant.reading.grows c.in-Err.ensures.grows

pub lines-preserved : goal.lines-preserved
lines-preserved c = record {
  utf8 = c.first_line.ensures.text;
  reading =
      reading_more c.args.text.now c.args.table.now c.lines.rest.now c.lines.number c.lines.drawing.symbols c.lines.table c.lines.drawing.states c.lines.drawing.edges.items c.lines.drawing.finals.items
      c.lines.invariant.reading c.first_line.result.0.now c.first_line.result.1.now c.first_line.ensures.lines c.first_line.ensures.shorter
      c.add_line.new.self.symbols c.add_line.new.table c.add_line.new.self.states c.add_line.new.self.edges.items c.add_line.new.self.finals.items c.in-Ok.ensures.grows c.in-Ok.ensures.ok;
}
