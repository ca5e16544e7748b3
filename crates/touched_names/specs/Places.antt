-- The places that a change touches, in a graph of places where each refers to others.
use Rattle.std.specs.Prelude.{◌≡◌, ◌<◌, ◌↔◌, ℕ, Bool, true, List, AllPairs, Contains, Some, slice_get}
use Rattle.name_order.specs.Graph.{Refers}

-- a place with such a mark
abbrev pub IsMarked : List Bool → ℕ → Type 0
IsMarked marks place = slice_get marks place ≡ Some true

-- one of these places is marked
abbrev pub HasMarked : List Bool → List ℕ → Type 0
HasMarked marks places = (place : ℕ) × Contains places place × IsMarked marks place

-- a place is touched that is so by itself, or that refers to a touched place
pub data TouchedPlace (graph : List (List ℕ)) (itself : List Bool) : ℕ → Type 0 where
  by_itself : {place : ℕ} → IsMarked itself place → TouchedPlace graph itself place
  by_reference : {place other : ℕ} → Refers graph place other → TouchedPlace graph itself other → TouchedPlace graph itself place

-- just these places have a mark
abbrev pub AreMarked : List Bool → (ℕ → Type 0) → Type 0
AreMarked marks P = (place : ℕ) → IsMarked marks place ↔ P place

-- just these places, each below the later ones
pub record ArePlaces (P : ℕ → Type 0) (places : List ℕ) : Type 0 where
  pub all : (place : ℕ) → Contains places place ↔ P place
  pub ascending : AllPairs (λ one next. one < next) places
