use Rattle.att_text.proofs.Tables.{text_room}
use Rattle.att_text.proofs.drawing.side_symbol.Goals as goal

pub symbol_of-requires-clause-room : goal.symbol_of-requires-clause-room
symbol_of-requires-clause-room c = text_room c.in-Some.text.now c.args.table.now 16777216 (rw c.in-Some.is at c.requires.room)
