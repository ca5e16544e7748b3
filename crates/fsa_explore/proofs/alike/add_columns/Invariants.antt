use Rattle.std.proofs.Common.{◌≡◌, ◌++◌, ◌+◌, take, map, slice_index}
use Rattle.fsa_explore.proofs.alike.add_columns.Given as goal

abbrev pub invariant-loop-class : goal.invariant-loop-class
invariant-loop-class l = l.spread.items ≡ l.initial.spread.items ++ map (λ class. slice_index l.next (l.row + class)) (take l.class-index l.of_places)
