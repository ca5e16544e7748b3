use Rattle.std.proofs.Common.{◌≡◌, ◌++◌, Some, map, take}
use Rattle.replace_rules.specs.Places.{place_with}
use Rattle.replace_rules.proofs.places.add_places.Given as goal

abbrev pub invariant-loop-context : goal.invariant-loop-context
invariant-loop-context l = l.places.items ≡ l.initial.places.items ++ map (place_with l.maps l.side) (map Some (take l.context-index l.contexts))
