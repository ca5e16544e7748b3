use Rattle.std.proofs.Common.{refl, arith}
use Rattle.body_equality.proofs.Same.{goes_to_end}
use Rattle.body_equality.specs.RenumberedLexicons.{renumbered_piece}
use Rattle.name_resolution.specs.Plain.{piece_of}
use Rattle.body_equality.proofs.pieces.same_side.Goals as goal

pub returns : goal.returns
returns c =
    let same = goes_to_end piece_of (renumbered_piece c.args.numbers.now) c.args.others.now c.args.side.now c.places.place (omega arith) (omega arith) c.places.invariant in
    (λ yes. same, λ is. refl)
