-- The first fault of a text.
use Rattle.std.specs.Prelude.{◌≡◌, ⊤, ℕ, ◌+◌, nat_lt, Bool, false, ◌||◌, List, [], ◌∷◌, length, map, Option, Some, None, codes, if◌then◌else◌}
use Rattle.std.specs.Str.{bytes_eq}
use Rattle.fsm_base.specs.Symbols.{with_text}
use Rattle.regex_tokens.specs.Reading.{is_flag}
use Rattle.att_text.specs.Lines.{Saying, arc, final, said_of, lines_of}
use Rattle.att_text.specs.declared.faults.AttWhy.{AttWhy}
use Rattle.att_text.specs.declared.faults.AttWhy.TheVariants.{Statement, Flag, OpenSymbol, LimitSymbols}
use Rattle.att_text.specs.declared.faults.AttError.{AttError}
use Rattle.att_text.specs.declared.faults.AttError.TheVariants.{Refused, Memory}

-- a side has a symbol that passes the test
abbrev pub on_side : (List ℕ → Bool) → Option (List ℕ) → Bool
on_side test None = false
on_side test (Some symbol) = test symbol

-- one of the sides has
abbrev pub on_sides : (List ℕ → Bool) → Saying → Bool
on_sides test (final state) = false
on_sides test (arc from to up low) = on_side test up || on_side test low

-- a symbol that stands for others: the symbols that a text doesn't name, as foma and hfst write them
abbrev pub is_open : List ℕ → Bool
is_open symbol = bytes_eq symbol (codes "@_IDENTITY_SYMBOL_@") || bytes_eq symbol (codes "@_UNKNOWN_SYMBOL_@")

-- the symbols with that of a side, which goes last where it is new
abbrev pub with_side : Option (List ℕ) → List (List ℕ) → List (List ℕ)
with_side None symbols = symbols
with_side (Some symbol) symbols = with_text symbol symbols

-- the symbols with those of a line
abbrev pub with_said : Saying → List (List ℕ) → List (List ℕ)
with_said (final state) symbols = symbols
with_said (arc from to up low) symbols = with_side low (with_side up symbols)

-- the symbols with those of lines
abbrev pub with_all : List Saying → List (List ℕ) → List (List ℕ)
with_all [] symbols = symbols
with_all (said ∷ more) symbols = with_all more (with_said said symbols)

-- the most symbols of a text
abbrev pub most_symbols : ℕ
most_symbols = 1024

-- the first fault of a line that says this, behind lines with these symbols
abbrev pub fault_in : List (List ℕ) → Saying → Option AttWhy
fault_in symbols said =
    if on_sides is_flag said then Some Flag
    else if on_sides is_open said then Some OpenSymbol
    else if nat_lt most_symbols (length (with_said said symbols)) then Some LimitSymbols
    else None

-- this fault in this line, or else one of the lines behind it
abbrev pub fault_or : ℕ → Option AttWhy → Option (ℕ × AttWhy) → Option (ℕ × AttWhy)
fault_or line None behind = behind
fault_or line (Some why) behind = Some (line, why)

-- the first fault of a line by what it says, if it says anything
abbrev pub line_fault : List (List ℕ) → Option Saying → Option AttWhy
line_fault symbols None = Some Statement
line_fault symbols (Some said) = fault_in symbols said

-- the symbols with those of a line, if it says anything
abbrev pub with_line : Option Saying → List (List ℕ) → List (List ℕ)
with_line None symbols = symbols
with_line (Some said) symbols = with_said said symbols

-- the first fault of lines, by what they say. They are counted from this number on and stand behind lines with these symbols
abbrev pub first_fault : ℕ → List (List ℕ) → List (Option Saying) → Option (ℕ × AttWhy)
first_fault line symbols [] = None
first_fault line symbols (said ∷ more) = fault_or line (line_fault symbols said) (first_fault (line + 1) (with_line said symbols) more)

-- the first fault of a text: its line, counted from 1, and the reason
abbrev pub fault_of : List ℕ → Option (ℕ × AttWhy)
fault_of text = first_fault 1 [] (map said_of (lines_of text))

-- the error is the first fault. Want of memory says nothing of it
abbrev pub IsWhyRefused : Option (ℕ × AttWhy) → AttError → Type 0
IsWhyRefused fault (Refused line why) = fault ≡ Some (line, why)
IsWhyRefused fault (Memory refused) = ⊤
