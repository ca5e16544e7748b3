-- A list, in the order of bytes, of the texts that a graph writes, as far as a walk has come.
use Rattle.std.specs.Prelude.{◌≡◌, ◌⊎◌, ◌↔◌, ◌++◌, ℕ, List, [], ◌∷◌, AllPairs, Contains}
use Rattle.fsa.specs.declared.automaton.Edge.{Edge}
use Rattle.lookup.specs.Walks.{IsBefore, WritesText}
use Rattle.lookup.specs.declared.walk.Byte.{Byte}

-- the list has the texts up to the one where the walk stands, and of those that begin with that one the ones
-- that go on with a byte below the floor
pub record IsListing (edges : List (Edge Byte)) (text : List ℕ) (floor : ℕ) (found : List (List ℕ)) : Type 0 where
  pub passed : (other : List ℕ) → Contains found other ↔ (WritesText edges other × IsBefore other (text ++ floor ∷ []))
  pub in_order : AllPairs IsBefore found

-- the text is listed where the graph writes it
abbrev pub AddsText : List (Edge Byte) → List ℕ → List (List ℕ) → List (List ℕ) → Type 0
AddsText edges text old new = (WritesText edges text × (new ≡ old ++ text ∷ [])) ⊎ ((¬ WritesText edges text) × (new ≡ old))
