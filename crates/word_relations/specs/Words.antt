-- Words and sets of words. A word over an alphabet is a list of its letters, and a set of words is a
-- test on lists (Beesley and Karttunen, Finite State Morphology, 2003, section 2.3).
use Rattle.std.specs.Prelude.{◌≡◌, List, [], ◌∷◌, ◌++◌, ℕ, All, Contains, Option, Some, None, slice_get}
use Rattle.std.specs.List.{flat_map}

-- every letter of the word is one of these
abbrev pub IsOver : {L : Type 0} → List L → List L → Type 0
IsOver letters w = All (Contains letters) w

-- each letter is named once
abbrev pub IsDistinct : {L : Type 0} → List L → Type 0
IsDistinct {L} letters = (i j : ℕ) (x : L) → slice_get letters i ≡ Some x → slice_get letters j ≡ Some x → i ≡ j

-- the words joined, one after another
abbrev pub joined : {L : Type 0} → List (List L) → List L
joined words = flat_map (λ w. w) words

-- a word of the first set and then a word of the second
abbrev pub IsConcatenation : {L : Type 0} → (List L → Type 0) → (List L → Type 0) → List L → Type 0
IsConcatenation {L} P Q w = (u : List L) × (v : List L) × (w ≡ u ++ v) × P u × Q v

-- any number of words of the set, joined
abbrev pub IsRepetition : {L : Type 0} → (List L → Type 0) → List L → Type 0
IsRepetition {L} P w = (words : List (List L)) × (w ≡ joined words) × All P words

-- the word w is what a table gives for the letters of v, in their order; a letter for which it gives none is
-- left out
pub data Translates {L M : Type 0} (table : List (L × Option M)) : List L → List M → Type 0 where
  finish : Translates table [] []
  keep : {x : L} {y : M} {v : List L} {w : List M} → Contains table (x, Some y) → Translates table v w → Translates table (x ∷ v) (y ∷ w)
  omit : {x : L} {v : List L} {w : List M} → Contains table (x, None) → Translates table v w → Translates table (x ∷ v) w
