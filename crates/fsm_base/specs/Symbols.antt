-- Symbols and their numbers. A symbol is a text that is not empty (Beesley and Karttunen, Finite State
-- Morphology, 2003, section 2.3: the symbols of an alphabet, single characters or multicharacter
-- symbols). Texts are lists of the bytes of UTF-8.
use Rattle.std.specs.Prelude.{ℕ, ◌<◌, ◌≤◌, List, [], ◌∷◌, ◌++◌, length, bytes_eq, All, if◌then◌else◌}
use Rattle.std.specs.List.{list_any, position_or_len}
use Rattle.word_relations.specs.Words.{IsDistinct}

-- a text that may be a symbol
abbrev pub IsSymbol : List ℕ → Type 0
IsSymbol text = 0 < length text

-- the texts of a symbol table: distinct symbols, so few that each number fits
pub record IsTable (texts : List (List ℕ)) : Type 0 where
  pub distinct : IsDistinct texts
  pub symbols : All IsSymbol texts
  pub few : length texts ≤ 16777216

-- the number of a text: its place, or the next number where it has none
abbrev pub number_of : List ℕ → List (List ℕ) → ℕ
number_of text texts = position_or_len (bytes_eq text) texts

-- the texts with this one, which goes last where it is new
abbrev pub with_text : List ℕ → List (List ℕ) → List (List ℕ)
with_text text texts = if list_any (bytes_eq text) texts then texts else texts ++ text ∷ []
