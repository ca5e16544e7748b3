use Rattle.std.proofs.Common.{◌≡◌, ◌<◌, All, length, map, take}
use Rattle.project_versions.specs.Rebuilt.{name_at}
use Rattle.project_versions.proofs.rebuilt.names_at.Given as goal

-- the names so far
abbrev pub invariant-places : goal.invariant-places
invariant-places l = All (λ place. place < length l.definitions) l.places → l.names.items ≡ map (name_at l.definitions) (take l.place-index l.places)
