use Rattle.std.proofs.Common.{sym, ◌∙◌}
use Rattle.att_text.specs.Views.{said_seen}
use Rattle.att_text.proofs.Beside.{room_for}
use Rattle.att_text.proofs.drawing.Drawing.add_line.Goals as goal

pub add_said-requires-clause-room : goal.add_said-requires-clause-room
add_said-requires-clause-room c = room_for (said_seen c.in-Some.said) c.args.self.now.symbols c.args.table.now c.requires (sym c.in_ok-fault.ensures.fault ∙ c.in-None.is)
