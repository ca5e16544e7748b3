-- The places that a place reaches, as they are found.
use Rattle.std.specs.Prelude.{◌≡◌, ◌≤◌, ◌⊎◌, ◌++◌, ℕ, Bool, true, List, length, take, count_by, Contains, Some, slice_get}
use Rattle.name_order.specs.Graph.{Refers, Reaches}
use Rattle.name_order.specs.declared.reach.Found.{Found}

-- the marks are those of these places, each of which stands there once
pub record AreMarked (marks : List Bool) (places : List ℕ) : Type 0 where
  pub marked : (place : ℕ) → Contains places place → slice_get marks place ≡ Some true
  pub only : (place : ℕ) → slice_get marks place ≡ Some true → Contains places place
  pub count : length places ≡ count_by (λ b. b) marks

abbrev pub AreFound : Found → Type 0
AreFound f = AreMarked f.marks.items f.places.items

-- the places that pass the test were added, and no others
pub record Adds (old new : Found) (P : ℕ → Type 0) : Type 0 where
  pub found : AreFound new
  pub bound : length new.marks.items ≡ length old.marks.items
  pub grown : (more : List ℕ) × (new.places.items ≡ old.places.items ++ more)
  pub only : (place : ℕ) → Contains new.places.items place → Contains old.places.items place ⊎ P place
  pub all : (place : ℕ) → P place → Contains new.places.items place

-- what was found is reached from the start, and so many of these places were followed: what they refer to is found
pub record AreGrowing (graph : List (List ℕ)) (start number : ℕ) (f : Found) : Type 0 where
  pub found : AreFound f
  pub bound : length f.marks.items ≡ length graph
  pub reached : (place : ℕ) → Contains f.places.items place → Reaches graph start place
  pub first : (place : ℕ) → Refers graph start place → Contains f.places.items place
  pub followed : (place other : ℕ) → Contains (take number f.places.items) place → Refers graph place other → Contains f.places.items other
  pub within : number ≤ length f.places.items
