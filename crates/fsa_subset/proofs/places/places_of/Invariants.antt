use Rattle.std.specs.BTreeMap.{get}
use Rattle.fsa_subset.specs.Placed.{FindsPlaces}
use Rattle.fsa_subset.proofs.places.places_of.Given as goal

abbrev pub invariant-loop-place : goal.invariant-loop-place
invariant-loop-place g l = FindsPlaces l.letters l.place (get g.L.Ord.cmp l.places)
