use Rattle.body_equality.proofs.Same.{Goes}
use Rattle.body_equality.specs.RenumberedLexicons.{renumbered_piece}
use Rattle.name_resolution.specs.Plain.{piece_of}
use Rattle.body_equality.proofs.pieces.same_side.Given as goal

-- whether the sides are the same turns on what is left of both
abbrev pub invariant-places : goal.invariant-places
invariant-places l = Goes piece_of (renumbered_piece l.numbers) l.others l.side l.place
