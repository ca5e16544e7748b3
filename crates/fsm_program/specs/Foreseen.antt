-- Replies that are made before the turn of their lines.
use Rattle.std.specs.Prelude.{Some}
use Rattle.fsm_program.specs.Tasks.{RepliesToLineIn}
use Rattle.fsm_program.specs.declared.ahead.Foreseen.{Foreseen}
use Rattle.fsm_program.specs.declared.look_up.LookUp.{LookUp}

-- the reply is one to the line, in what lines are looked up in
abbrev pub IsForeseen : LookUp → Foreseen → Type 0
IsForeseen look_up foreseen = RepliesToLineIn look_up.subject look_up.version (Some foreseen.line.items) foreseen.reply.items
