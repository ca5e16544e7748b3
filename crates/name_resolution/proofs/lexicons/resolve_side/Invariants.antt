use Rattle.std.proofs.Common.{◌≡◌, map, take}
use Rattle.name_resolution.specs.NumberedLexicons.{piece_in}
use Rattle.name_resolution.specs.Plain.{piece_of}
use Rattle.name_resolution.proofs.lexicons.resolve_side.Given as goal

-- the pieces so far
abbrev pub invariant-side : goal.invariant-side
invariant-side l = map piece_of l.found.items ≡ map (λ p. piece_in l.names l.table (piece_of p)) (take l.piece-index l.side)
