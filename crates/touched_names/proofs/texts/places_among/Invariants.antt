use Rattle.std.proofs.Common.{◌≡◌, map, take}
use Rattle.std.specs.String.{string_bytes}
use Rattle.touched_names.specs.Itself.{places_among}
use Rattle.touched_names.proofs.texts.places_among.Given as goal

-- the places of the texts so far
abbrev pub invariant-texts : goal.invariant-texts
invariant-texts l = l.places.items ≡ places_among (map string_bytes l.table-inside.texts.keys) (take l.text-index l.texts)
