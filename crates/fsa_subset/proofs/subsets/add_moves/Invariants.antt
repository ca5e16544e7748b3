use Rattle.std.proofs.Common.{◌≡◌, ◌++◌, take}
use Rattle.std.specs.List.{flat_map}
use Rattle.fsa_subset.specs.Sets.{from_place}
use Rattle.fsa_subset.proofs.subsets.add_moves.Given as goal

abbrev pub invariant-loop-edge : goal.invariant-loop-edge
invariant-loop-edge l = l.moves.items ≡ l.initial.moves.items ++ flat_map from_place (take l.edge-index l.edges)
