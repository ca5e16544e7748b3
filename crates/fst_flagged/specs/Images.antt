-- What stands in place of a letter where conditions are moved, renumbered, or made of the flags of tapes and these of them.
use Rattle.std.specs.Prelude.{ℕ, ◌+◌, ◌-◌, ◌^◌, min, Bool, true, false, not, ◌&&◌, cond, List, Option, None, Some, nat_lt, slice_get}
use Rattle.std.specs.Option.{option_map}
use Rattle.fsm_base.specs.declared.letters.Sym.{Sym}
use Rattle.fsm_base.specs.declared.letters.Pair.{Pair}
use Rattle.regex_ast.specs.declared.lexc.FlagOp.{FlagOp}
use Rattle.flag_diacritics.specs.declared.tape.Tape.{Tape}
use Rattle.flag_diacritics.specs.declared.tape.Tape.TheVariants.{Pair as OfPair, UpFlag, LowFlag}
use Rattle.fst_flagged.specs.declared.condition.Condition.{Condition}
use Rattle.fst_flagged.specs.declared.condition.Run.{Run}
use Rattle.fst_flagged.specs.declared.condition.Run.TheVariants.{Upper, Lower}
use Rattle.fst_flagged.specs.Conditions.{first, is_letter}

-- the symbol on a side is a condition
abbrev pub is_condition : Option Sym → Bool
is_condition None = false
is_condition (Some symbol) = not (is_letter symbol)

-- no side of the pair, if the edge has one, is a condition
abbrev pub is_plain : Option Pair → Bool
is_plain None = true
is_plain (Some pair) = not (is_condition pair.up) && not (is_condition pair.low)

-- a letter of tapes is a flag, or such a pair
abbrev pub is_plain_tape : Option Tape → Bool
is_plain_tape None = true
is_plain_tape (Some (OfPair pair)) = is_plain (Some pair)
is_plain_tape (Some (UpFlag n)) = true
is_plain_tape (Some (LowFlag n)) = true

-- a condition moved to the lower side
abbrev pub moved_below : Pair → Pair
moved_below pair = cond (is_condition pair.up) (record { up = None; low = pair.up }) pair

-- the sides exchanged, but for a condition
abbrev pub turned : Pair → Pair
turned pair = cond (is_condition pair.up) pair (record { up = pair.low; low = pair.up })

-- a condition with a greater number; a symbol's number fits 32 bits
abbrev pub most : ℕ
most = 2 ^ 32 - 1

abbrev pub raised : ℕ → Option Sym → Option Sym
raised by None = None
raised by (Some symbol) = Some (record { 0 = min (symbol.0 + by) most })

abbrev pub renumbered : ℕ → Pair → Pair
renumbered by pair = cond (is_condition pair.up) (record { up = raised by pair.up; low = pair.low }) pair

-- the condition of a flag
abbrev pub condition_of : Run → FlagOp → Condition
condition_of run f = record { run = run; flag = f }

-- a letter of tapes as a pair: a flag as the condition with its number behind the first number of its side; a number past the flags is none
abbrev pub condition_pair : ℕ → ℕ → ℕ → Option Pair
condition_pair count from n = cond (nat_lt n count) (Some (record { up = Some (record { 0 = min (from + n) most }); low = None })) None

abbrev pub as_pair : ℕ → ℕ → Tape → Option Pair
as_pair count lower (OfPair pair) = Some pair
as_pair count lower (UpFlag n) = condition_pair count first n
as_pair count lower (LowFlag n) = condition_pair count lower n

-- a pair as a letter of tapes: a condition as the flag with its number, on the side of its run
abbrev pub on_side : Run → ℕ → Tape
on_side Upper n = UpFlag n
on_side Lower n = LowFlag n

abbrev pub flag_at_place : List Condition → ℕ → Option Tape
flag_at_place conditions place = option_map (λ condition. on_side condition.run place) (slice_get conditions place)

abbrev pub flag_at : List Condition → Option Sym → Option Tape
flag_at conditions None = None
flag_at conditions (Some symbol) = flag_at_place conditions (symbol.0 - first)

abbrev pub as_tape : List Condition → Pair → Option Tape
as_tape conditions pair = cond (is_condition pair.up) (flag_at conditions pair.up) (Some (OfPair pair))
