-- Texts of single bytes that a table is known to have.
use Rattle.std.specs.Prelude.{◌≡◌, ℕ, List, [], ◌∷◌, Bool, Some, true, Contains, slice_get}

-- each byte that is marked is a text of the table
abbrev pub AreKnown : List (List ℕ) → List Bool → Type 0
AreKnown table known = (byte : ℕ) → slice_get known byte ≡ Some true → Contains table (byte ∷ [])
