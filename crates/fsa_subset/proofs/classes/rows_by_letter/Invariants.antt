use Rattle.std.proofs.Common.{◌≡◌, take}
use Rattle.std.specs.List.{flat_map}
use Rattle.fsa_subset.specs.Classes.{by_letter}
use Rattle.fsa_subset.proofs.classes.rows_by_letter.Given as goal

abbrev pub invariant-loop-edge : goal.invariant-loop-edge
invariant-loop-edge l = l.turned.items ≡ flat_map by_letter (take l.edge-index l.edges)
