-- The lines of an AT&T text, and what each says (AT&T FSM Library, the text format of its programs, which those of OpenFst and of foma
-- read and write). A text is the list of its bytes in UTF-8. An arc line has the fields FROM, TO, UPPER and LOWER, or FROM, TO and one
-- symbol for both sides; a final line has a state alone. `@0@` is no symbol. Lines have no weights here: the fourth field of a line is
-- always its lower symbol.
use Rattle.std.specs.Prelude.{ℕ, ◌==◌, ◌&&◌, ◌||◌, ◌^◌, nat_lt, Bool, false, not, cond, List, [], ◌∷◌, length, Option, Some, None, codes, if◌then◌else◌}
use Rattle.std.specs.List.{slice_split, onto_first, filter_map}
use Rattle.std.specs.Char.{is_ascii_digit}
use Rattle.std.specs.Str.{all_ascii_digits, bytes_eq}
use Rattle.std.specs.Str.Parse.{digits_value}

-- the lines of a text: what stands before each newline, 10, and what stands behind the last one, unless that is nothing
abbrev pub lines_of : List ℕ → List (List ℕ)
lines_of [] = []
lines_of (b ∷ bs) = cond (b == 10) ([] ∷ lines_of bs) (onto_first b (lines_of bs))

-- the fields of a line stand apart by tabs, 9
abbrev pub fields_of : List ℕ → List (List ℕ)
fields_of line = slice_split (λ b. b == 9) line

-- what a line says: that an arc leads from a state to a state, with the symbols on its upper and lower side, or that a state is final
pub data Saying : Type 0 where
  arc : ℕ → ℕ → Option (List ℕ) → Option (List ℕ) → Saying
  final : ℕ → Saying

-- digits, at least one, and no 0 before others
abbrev pub is_decimal : List ℕ → Bool
is_decimal [] = false
is_decimal (d ∷ []) = is_ascii_digit d
is_decimal (d ∷ e ∷ ds) = not (d == 48) && all_ascii_digits (d ∷ e ∷ ds)

-- the state that a field is: a number below 2 ^ 64 in decimal
abbrev pub state_of : List ℕ → Option ℕ
state_of field = if is_decimal field && nat_lt (digits_value 10 field) (2 ^ 64) then Some (digits_value 10 field) else None

-- the field that is no symbol
abbrev pub no_symbol : List ℕ
no_symbol = codes "@0@"

-- the symbol that a field is, if it is one
abbrev pub side_of : List ℕ → Option (List ℕ)
side_of field = if bytes_eq field no_symbol then None else Some field

abbrev pub arc_between : Option ℕ → Option ℕ → List ℕ → List ℕ → Option Saying
arc_between (Some from) (Some to) upper lower = Some (arc from to (side_of upper) (side_of lower))
arc_between (Some from) None upper lower = None
arc_between None to upper lower = None

-- the fields of an arc line; those of symbols aren't empty
abbrev pub arc_of : List ℕ → List ℕ → List ℕ → List ℕ → Option Saying
arc_of from to upper lower =
    if length upper == 0 || length lower == 0 then None else arc_between (state_of from) (state_of to) upper lower

abbrev pub final_of : Option ℕ → Option Saying
final_of None = None
final_of (Some state) = Some (final state)

-- what fields say
abbrev pub said_by : List (List ℕ) → Option Saying
said_by [] = None
said_by (state ∷ []) = final_of (state_of state)
said_by (from ∷ to ∷ []) = None
said_by (from ∷ to ∷ both ∷ []) = arc_of from to both both
said_by (from ∷ to ∷ upper ∷ lower ∷ []) = arc_of from to upper lower
said_by (from ∷ to ∷ upper ∷ lower ∷ weight ∷ more) = None

-- what a line says, if it is an arc line or a final line
abbrev pub said_of : List ℕ → Option Saying
said_of line = said_by (fields_of line)

-- what the lines of a text say
abbrev pub said_in : List ℕ → List Saying
said_in text = filter_map said_of (lines_of text)

-- the state with which a line begins
abbrev pub state_in : Saying → ℕ
state_in (arc from to upper lower) = from
state_in (final state) = state
