-- The cut of a text into symbols: from left to right, the longest symbol first (Beesley and Karttunen,
-- Finite State Morphology, 2003, section 2.3, on the tokens of an input with multicharacter symbols).
-- Texts are lists of the bytes of UTF-8, and an alphabet is the list of its symbols.
use Rattle.std.specs.Prelude.{ℕ, ◌+◌, ◌-◌, Bool, ◌||◌, nat_lt, nat_le, nat_eq, List, [], ◌∷◌, length, zero, suc, Option, None, Some, Result, Ok, Err, if◌then◌else◌, count_by}
use Rattle.std.specs.List.{starts_with}

-- the longer of two symbols, and the first where they are as long
abbrev pub longer : List ℕ → Option (List ℕ) → List ℕ
longer symbol None = symbol
longer symbol (Some other) = if nat_lt (length symbol) (length other) then other else symbol

-- the longest symbol that the text begins with
abbrev pub longest : List (List ℕ) → List ℕ → Option (List ℕ)
longest [] text = None
longest (symbol ∷ symbols) text =
    if starts_with nat_eq text symbol then Some (longer symbol (longest symbols text)) else longest symbols text

-- in UTF-8 a character begins at each byte but those from 128 to 191
abbrev pub begins_character : ℕ → Bool
begins_character byte = nat_lt byte 128 || nat_le 192 byte

-- how many characters begin in these bytes
abbrev pub characters : List ℕ → ℕ
characters bytes = count_by begins_character bytes

-- a symbol and the cut of what follows it. Where that stops, it is so many characters further on
abbrev pub followed : List ℕ → Result (List (List ℕ)) ℕ → Result (List (List ℕ)) ℕ
followed symbol (Ok word) = Ok (symbol ∷ word)
followed symbol (Err place) = Err (characters symbol + place)

-- the cut of a text that begins with this symbol, and goes on with that text behind it
abbrev pub cut_by : Option (List ℕ) → (ℕ → Result (List (List ℕ)) ℕ) → Result (List (List ℕ)) ℕ
cut_by None behind = Err 1
cut_by (Some symbol) behind = followed symbol (behind (length symbol))

-- the cut of the text behind its first bytes, as many as this number
abbrev pub cut_behind : List (List ℕ) → ℕ → List ℕ → Result (List (List ℕ)) ℕ
cut_behind symbols skipped [] = Ok []
cut_behind symbols zero (byte ∷ text) =
    cut_by (longest symbols (byte ∷ text)) (λ skipped. cut_behind symbols (skipped - 1) text)
cut_behind symbols (suc skipped) (byte ∷ text) = cut_behind symbols skipped text

-- the cut of a text into symbols, or else the place of the character at which no symbol begins, from 1 on
abbrev pub cut : List (List ℕ) → List ℕ → Result (List (List ℕ)) ℕ
cut symbols text = cut_behind symbols 0 text
