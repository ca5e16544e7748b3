use Rattle.std.proofs.Common.{take}
use Rattle.replace_directed.specs.Turned.{AreMatched, IsTurnedMap}
use Rattle.replace_directed.proofs.turning.turned_maps.Given as goal

abbrev pub invariant-loop-map : goal.invariant-loop-map
invariant-loop-map l = AreMatched IsTurnedMap (take l.map-index l.maps) l.turned.items
