-- Declared symbols as they are kept.
use Rattle.std.specs.Prelude.{◌≡◌, ℕ, ◌<◌, ◌≤◌, ◌∷◌, Bool, true, List, length, slice_index_or, All, Vec}
use Rattle.std.specs.Global.{Global}

abbrev pub kept : Vec ℕ Global → List ℕ
kept symbol = symbol.items

-- the symbol isn't empty, and has so many characters at most
abbrev pub IsWithin : ℕ → List ℕ → Type 0
IsWithin most symbol = (0 < length symbol) × (length symbol ≤ most)

abbrev pub AreWithin : ℕ → List (List ℕ) → Type 0
AreWithin most symbols = All (IsWithin most) symbols

-- the first character of the symbol is marked where it has a place
abbrev pub IsMarkedFor : List Bool → List ℕ → Type 0
IsMarkedFor marks symbol = (first : ℕ) (others : List ℕ) → symbol ≡ first ∷ others → slice_index_or marks first true ≡ true

abbrev pub AreMarked : List Bool → List (List ℕ) → Type 0
AreMarked marks symbols = All (IsMarkedFor marks) symbols
