use Rattle.std.proofs.Common.{refl, arith}
use Rattle.body_equality.proofs.Same.{goes_to_end}
use Rattle.body_equality.specs.RenumberedGrammars.{renumbered_pair}
use Rattle.grammar_pairs.specs.Plain.{pair_of}
use Rattle.body_equality.proofs.parts.same_pairs.Goals as goal

pub returns : goal.returns
returns c =
    let same = goes_to_end pair_of (renumbered_pair c.args.numbers.now) c.args.others.now c.args.pairs.now c.places.place (omega arith) (omega arith) c.places.invariant in
    (λ yes. same, λ is. refl)
