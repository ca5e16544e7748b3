use Rattle.std.proofs.Common.{◌≡◌, Some, take}
use Rattle.std.specs.List.{Contains}
use Rattle.std.specs.BTreeMap.{get}
use Rattle.fsa.specs.declared.automaton.Edge.{Edge}
use Rattle.fsa_subset.specs.Placed.{AreFound}
use Rattle.fsa_subset.proofs.letters.letters_on.Given as goal

abbrev pub invariant-loop-edge : goal.invariant-loop-edge
invariant-loop-edge g l =
    AreFound l.letters.items (get g.L.Ord.cmp l.places)
    × ((e : Edge g.row.L.Denot) (x : g.row.L.Denot) → Contains (take l.edge-index l.edges) e → e.letter ≡ Some x → Contains l.letters.items x)
