-- Topological orders (Kahn, Topological sorting of large networks, Communications of the ACM 5, 1962). A graph has one where no place
-- reaches itself, and only there.
use Rattle.std.specs.Prelude.{◌≡◌, ◌<◌, ◌↔◌, ℕ, List, length, take, Contains, Some, slice_get}
use Rattle.word_relations.specs.Words.{IsDistinct}
use Rattle.name_order.specs.Graph.{Refers, Reaches}
use Rattle.name_order.specs.declared.order.Order.{Order}
use Rattle.name_order.specs.declared.order.Order.TheVariants.{Behind, Cycle}

-- each place of the list stands behind all that it refers to
abbrev pub AreBehind : List (List ℕ) → List ℕ → Type 0
AreBehind graph order = (k place other : ℕ) → slice_get order k ≡ Some place → Refers graph place other → Contains (take k order) other

-- each place stands once in it, and behind all that it refers to
pub record IsOrder (graph : List (List ℕ)) (order : List ℕ) : Type 0 where
  pub places : (place : ℕ) → Contains order place ↔ place < length graph
  pub once : IsDistinct order
  pub behind : AreBehind graph order

-- no place reaches itself
abbrev pub HasNoCycle : List (List ℕ) → Type 0
HasNoCycle graph = (place : ℕ) → Reaches graph place place → ⊥

-- the place reaches itself, and none before it does
pub record IsFirstCycle (graph : List (List ℕ)) (place : ℕ) : Type 0 where
  pub within : place < length graph
  pub itself : Reaches graph place place
  pub first : (before : ℕ) → before < place → Reaches graph before before → ⊥

-- an order where no place reaches itself, else the first place that does
abbrev pub IsOrdered : List (List ℕ) → Order → Type 0
IsOrdered graph (Behind order) = IsOrder graph order.items × HasNoCycle graph
IsOrdered graph (Cycle place) = IsFirstCycle graph place
