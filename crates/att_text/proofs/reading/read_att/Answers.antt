use Rattle.att_text.specs.Lines.{said_in}
use Rattle.att_text.proofs.Relating.{drawn_relates, drawn_symbols}
use Rattle.att_text.proofs.reading.read_att.Goals as goal

pub returns-in-Ok-clause-relation : goal.returns-in-Ok-clause-relation
returns-in-Ok-clause-relation c =
    rw c.into_network.ensures (drawn_relates c.drawing_of.new.table (said_in c.args.text.now) c.in-Ok.drawing.states c.in-Ok.drawing.edges.items c.in-Ok.drawing.finals.items c.in-Ok.ensures.drawn)

pub returns-in-Ok-clause-symbols : goal.returns-in-Ok-clause-symbols
returns-in-Ok-clause-symbols c =
    rw c.into_network.ensures (drawn_symbols c.drawing_of.new.table (said_in c.args.text.now) c.in-Ok.drawing.states c.in-Ok.drawing.edges.items c.in-Ok.drawing.finals.items c.in-Ok.ensures.drawn)
