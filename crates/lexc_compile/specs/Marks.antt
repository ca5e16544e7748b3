-- Numbers by which letters are hashed.
use Rattle.std.specs.Prelude.{ℕ, ◌+◌, ◌*◌, Option, Some, None}
use Rattle.fsm_base.specs.declared.letters.Sym.{Sym}
use Rattle.flag_diacritics.specs.declared.tape.Tape.{Tape}
use Rattle.flag_diacritics.specs.declared.tape.Tape.TheVariants as tapes

abbrev pub side_mark : Option Sym → ℕ
side_mark None = 0
side_mark (Some sym) = sym.0 + 1

-- that of a flag is its own
abbrev pub mark_of : Tape → ℕ
mark_of (tapes.Pair pair) = side_mark pair.up * 2147483648 + side_mark pair.low
mark_of (tapes.UpFlag flag) = flag
mark_of (tapes.LowFlag flag) = flag
