-- A graph of places: for each place, counted from 0, the places that it refers to (Cormen, Leiserson, Rivest and Stein, Introduction
-- to Algorithms, section 22.1).
use Rattle.std.specs.Prelude.{◌≡◌, ◌<◌, ℕ, List, map, length, Contains, Some, slice_get}
use Rattle.std.specs.Prelude.{Vec}
use Rattle.std.specs.Global.{Global}

-- the graph of lists of places
abbrev pub graph_of : List (Vec ℕ Global) → List (List ℕ)
graph_of lists = map (λ list. list.items) lists

-- a place refers to another one
abbrev pub Refers : List (List ℕ) → ℕ → ℕ → Type 0
Refers graph place other = (below : List ℕ) × (slice_get graph place ≡ Some below) × Contains below other

-- a place refers to another one, or reaches it by such steps
pub data Reaches (graph : List (List ℕ)) : ℕ → ℕ → Type 0 where
  at_once : {place other : ℕ} → Refers graph place other → Reaches graph place other
  further : {place next other : ℕ} → Refers graph place next → Reaches graph next other → Reaches graph place other

-- what is referred to is a place
abbrev pub IsWhole : List (List ℕ) → Type 0
IsWhole graph = (place other : ℕ) → Refers graph place other → other < length graph
