use Rattle.std.proofs.Common.{◌≡◌, map, take}
use Rattle.replace_marks.specs.declared.marks.Mark.TheVariants.{Copy}
use Rattle.replace_marks.proofs.Listing.{AreMarks}
use Rattle.replace_marks.proofs.marks.marks_of.Given as goal

abbrev pub invariant-loop-symbol : goal.invariant-loop-symbol
invariant-loop-symbol l = l.marks.items ≡ map Copy (take l.symbol-index l.syms)

abbrev pub invariant-loop-map : goal.invariant-loop-map
invariant-loop-map l = AreMarks l.syms l.map l.marks.items
