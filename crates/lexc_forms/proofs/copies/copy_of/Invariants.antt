use Rattle.std.proofs.Common.{◌≡◌, take}
use Rattle.lexc_forms.proofs.copies.copy_of.Given as goal

-- the pieces so far
abbrev pub invariant-pieces : goal.invariant-pieces
invariant-pieces l = l.copy.items ≡ take l.piece-index l.pieces
