use Rattle.std.proofs.Common.{◌≡◌, ◌<◌, ℕ, Some, length}
use Rattle.std.specs.List.{slice_get}
use Rattle.fsa_minimal.proofs.folding.images_of.Given as goal

abbrev pub invariant-loop-class : goal.invariant-loop-class
invariant-loop-class l = record {
  count : length l.images.items ≡ l.class-index;
  same : (s class : ℕ) → s < l.class-index → slice_get l.classes s ≡ Some class → slice_get l.images.items s ≡ slice_get l.numbers class;
}
