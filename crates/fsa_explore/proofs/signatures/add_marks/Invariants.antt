use Rattle.std.proofs.Common.{◌≡◌, ◌++◌, take}
use Rattle.std.specs.List.{flat_map}
use Rattle.fsa_explore.specs.Signatures.{numbers}
use Rattle.fsa_explore.proofs.signatures.add_marks.Given as goal

abbrev pub invariant-loop-mark : goal.invariant-loop-mark
invariant-loop-mark l = l.signature.items ≡ l.initial.signature.items ++ flat_map numbers (take l.mark-index l.marks)
