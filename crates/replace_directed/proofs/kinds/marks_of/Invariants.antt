use Rattle.std.proofs.Common.{◌≡◌, true, take}
use Rattle.directed_words.specs.Kinds.{is_of}
use Rattle.replace_directed.proofs.Picked.{ArePicked}
use Rattle.replace_directed.proofs.kinds.marks_of.Given as goal

abbrev pub invariant-loop-mark : goal.invariant-loop-mark
invariant-loop-mark l = ArePicked (λ m. is_of l.kind m ≡ true) (take l.mark-index l.marks) l.found.items
