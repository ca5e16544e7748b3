use Rattle.std.proofs.Common.{◌≡◌, ◌↔◌, ◌+◌, ◌-◌, ℕ, Some, true, length}
use Rattle.std.specs.List.{slice_get}
use Rattle.lookup.specs.declared.walk.Leaving.{Leaving}
use Rattle.lookup.proofs.walk.keep.Given as goal

abbrev pub invariant-unknown : goal.invariant-unknown
invariant-unknown l = record {
  same : (n : ℕ) (known : Leaving) → known.is_known ≡ true → (slice_get l.leaving.items n ≡ Some known) ↔ (slice_get l.fn.leaving.items n ≡ Some known);
}

abbrev pub decreases-unknown : goal.decreases-unknown
decreases-unknown l = l.number + 1 - length l.leaving.items
