use Rattle.std.proofs.Common.{refl, arith}
use Rattle.body_equality.proofs.Same.{goes_to_end}
use Rattle.body_equality.specs.RenumberedGrammars.{part_behind, renumbered_behind}
use Rattle.body_equality.proofs.parts.same_parts.Goals as goal

pub returns : goal.returns
returns c =
    let same = goes_to_end part_behind (renumbered_behind c.args.numbers.now) c.args.others.now c.args.parts.now c.places.place (omega arith) (omega arith) c.places.invariant in
    (λ yes. same, λ is. refl)
