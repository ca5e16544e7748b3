use Rattle.std.proofs.Common.{◌≡◌, length}
use Rattle.project_definitions.specs.Referring.{references_of}
use Rattle.touched_names.proofs.Marking.{AreRight}
use Rattle.touched_names.proofs.places.marks_of.Given as goal

-- the marks of the places so far are right
abbrev pub invariant-order : goal.invariant-order
invariant-order l = record {
  many : length l.marks.items ≡ length l.definitions;
  right : AreRight (references_of l.definitions) l.itself l.order l.place-index l.marks.items;
}
