use Rattle.std.proofs.Common.{◌≡◌, ◌++◌, take}
use Rattle.std.specs.List.{flat_map}
use Rattle.fsa_subset.specs.Classes.{at_class}
use Rattle.fsa_subset.proofs.classes.add_class.Given as goal

abbrev pub invariant-loop-edge : goal.invariant-loop-edge
invariant-loop-edge l = l.kept.items ≡ l.initial.kept.items ++ flat_map (at_class l.class) (take l.edge-index l.edges)
