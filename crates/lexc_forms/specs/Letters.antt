-- The letters of a word: characters, escaped by `%` or not (Beesley and Karttunen, Finite State Morphology, 2003, chapter 4).
use Rattle.std.specs.Prelude.{ℕ, ◌==◌, Bool, false, List, map}
use Rattle.std.specs.Str.{encode_utf8_all}
use Rattle.lexc_forms.specs.declared.letters.Letter.{Letter}
use Rattle.lexc_forms.specs.declared.letters.Letter.TheVariants.{Plain, Escaped}

abbrev pub character_of : Letter → ℕ
character_of (Plain c) = c
character_of (Escaped c) = c

abbrev pub characters_of : List Letter → List ℕ
characters_of letters = map character_of letters

-- the text of letters by its bytes, their escapes undone
abbrev pub text_of : List Letter → List ℕ
text_of letters = encode_utf8_all (characters_of letters)

-- a `:` between two sides
abbrev pub is_colon : Letter → Bool
is_colon (Plain c) = c == 58
is_colon (Escaped c) = false

-- an `@`, with which a flag begins and ends
abbrev pub is_mark : ℕ → Bool
is_mark c = c == 64
