use Rattle.std.proofs.Common.{◌≡◌, ◌<◌, ℕ, None, Some, length, slice_get}
use Rattle.project_store.proofs.building.none_built.Given as goal

-- none is built
abbrev pub invariant-places : goal.invariant-places
invariant-places l = record {
  count : length l.built.items ≡ l.counter;
  none : (place : ℕ) → place < length l.built.items → slice_get l.built.items place ≡ Some None;
}
