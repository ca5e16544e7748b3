-- Where all places are done they are in an order, and then no place reaches itself.
use Rattle.std.proofs.Common.{◌≡◌, ℕ, ◌<◌, List, Some, length, take, drop, sym, ap, arith, ◌∙◌}
use Rattle.std.specs.List.{slice_get, Contains}
use Rattle.std.proofs.lemmas.Option.{slice_get_within}
use Rattle.std.proofs.lemmas.List.{take-append-drop, length-take}
use Rattle.word_relations.proofs.Places.{slice_get_from_Contains, slice_get-append_left}
use Rattle.name_order.specs.Graph.{Reaches, at_once, further}
use Rattle.name_order.specs.Orders.{IsOrder, HasNoCycle}
use Rattle.name_order.specs.Visits.{AreVisits}
use Rattle.name_order.specs.declared.visit.Visits.{Visits}
use Rattle.name_order.proofs.References.{reaches_within}

pub order_is : (graph : List (List ℕ)) (v : Visits) → AreVisits graph v → ((place : ℕ) → place < length graph → Contains v.order.items place) → IsOrder graph v.order.items
order_is graph v are all = record {
  places = λ place. (
    λ h. let within = slice_get_within v.marks.items place _ ((are.done place).1 h) in let size = are.marks in omega (arith, within, size),
    λ h. all place h,
  );
  once = are.once;
  behind = are.behind;
}

module _ (graph : List (List ℕ)) (order : List ℕ) (is : IsOrder graph order) where
  -- what stands in a front of the order stands in it before that place
  before : (k other : ℕ) → Contains (take k order) other → (j : ℕ) × (j < k) × (slice_get order j ≡ Some other)
  before k other h =
      let (j, at) = slice_get_from_Contains (take k order) other h in
      let within = slice_get_within (take k order) j other at in
      let short = length-take k order in
      (j, omega (arith, within, short), ap (λ (ps : List ℕ). slice_get ps j) (sym (take-append-drop k order)) ∙ slice_get-append_left (take k order) (drop k order) j within ∙ at)

  falls : (place other : ℕ) → Reaches graph place other → (k : ℕ) → slice_get order k ≡ Some place → (j : ℕ) × (j < k) × (slice_get order j ≡ Some other)
  falls place other (at_once r) k h = before k other (is.behind k place other h r)
  falls place other (further {next} r more) k h =
      let (i, lower, at) = before k next (is.behind k place next h r) in
      let (j, lowest, there) = falls next other more i at in
      (j, omega (arith, lower, lowest), there)

  pub no_cycle : HasNoCycle graph
  no_cycle place r =
      let (k, at) = slice_get_from_Contains order place ((is.places place).1 (reaches_within graph place place r)) in
      let (j, lower, there) = falls place place r k at in
      let same : j ≡ k = is.once j k place there at in
      omega (arith, lower, same)
