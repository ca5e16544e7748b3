-- Visits of places, depth first (Cormen, Leiserson, Rivest and Stein, Introduction to Algorithms, section 22.3): a place is new, then
-- open while what it refers to is visited, and then done. The places that are done are in an order.
use Rattle.std.specs.Prelude.{◌≡◌, ◌≤◌, ◌↔◌, ℕ, Bool, true, false, List, length, count_by, Contains, Some, slice_get}
use Rattle.word_relations.specs.Words.{IsDistinct}
use Rattle.name_order.specs.Orders.{AreBehind}
use Rattle.name_order.specs.declared.visit.Mark.{Mark}
use Rattle.name_order.specs.declared.visit.Mark.TheVariants.{New, Open, Done}
use Rattle.name_order.specs.declared.visit.Visits.{Visits}

abbrev pub is_new : Mark → Bool
is_new New = true
is_new Open = false
is_new Done = false

-- how many places are new
abbrev pub count_new : List Mark → ℕ
count_new marks = count_by is_new marks

abbrev pub IsOpen : Visits → ℕ → Type 0
IsOpen v place = slice_get v.marks.items place ≡ Some Open

-- the places that are done are those of the order, each once and behind all that it refers to
pub record AreVisits (graph : List (List ℕ)) (v : Visits) : Type 0 where
  pub marks : length v.marks.items ≡ length graph
  pub done : (place : ℕ) → slice_get v.marks.items place ≡ Some Done ↔ Contains v.order.items place
  pub once : IsDistinct v.order.items
  pub behind : AreBehind graph v.order.items

-- more places are done, the same are open, and none became new
pub record Extends (old new : Visits) : Type 0 where
  pub more : (place : ℕ) → Contains old.order.items place → Contains new.order.items place
  pub open_alike : (place : ℕ) → IsOpen old place ↔ IsOpen new place
  pub fewer : count_new new.marks.items ≤ count_new old.marks.items

-- what a visit of a place leaves, where it meets no place that reaches itself
pub record Visited (graph : List (List ℕ)) (old new : Visits) (place : ℕ) : Type 0 where
  pub visits : AreVisits graph new
  pub extends : Extends old new
  pub done : Contains new.order.items place
