-- The numbers that the exports answer with. include/morph.h has a name for each.
use Rattle.std.specs.Prelude.{ℕ}
use Rattle.morph_c.specs.declared.trouble.Trouble.{Trouble}
use Rattle.morph_c.specs.declared.trouble.Trouble.TheVariants.{Memory, State, NotUtf8, Long, Newline, Refused, NoSymbol}

-- all is told
abbrev pub ok : ℕ
ok = 0

-- the caller's buffer is too short
abbrev pub no_room : ℕ
no_room = 1

abbrev pub status_of : Trouble → ℕ
status_of Memory = 2
status_of State = 3
status_of NotUtf8 = 4
status_of Long = 5
status_of Newline = 6
status_of Refused = 7
status_of (NoSymbol at) = 8
