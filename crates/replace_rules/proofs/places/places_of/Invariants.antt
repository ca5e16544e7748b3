use Rattle.std.proofs.Common.{◌≡◌, take}
use Rattle.replace_rules.specs.Places.{places_of}
use Rattle.replace_rules.proofs.places.places_of.Given as goal

abbrev pub invariant-loop-group : goal.invariant-loop-group
invariant-loop-group l = l.places.items ≡ places_of (take l.group-index l.groups)
