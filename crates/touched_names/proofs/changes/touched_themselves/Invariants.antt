use Rattle.std.proofs.Common.{◌≡◌, ◌<◌, ◌↔◌, ℕ, IsTrue, Some, length, slice_get}
use Rattle.project_definitions.specs.declared.definition.Definition.{Definition}
use Rattle.touched_names.specs.Itself.{IsTouchedItself, number_there}
use Rattle.touched_names.specs.Places.{IsMarked}
use Rattle.touched_names.proofs.changes.touched_themselves.Given as goal

-- the definitions so far are marked right
abbrev pub invariant-definitions : goal.invariant-definitions
invariant-definitions l = record {
  count : length l.marks.items ≡ l.place;
  right : (place : ℕ) (d : Definition) → place < l.place → slice_get l.new place ≡ Some d
      → IsMarked l.marks.items place ↔ IsTouchedItself l.old l.numbers (IsTrue l.same_symbols) (number_there l.numbers place) d;
}
