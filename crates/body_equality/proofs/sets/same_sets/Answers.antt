use Rattle.std.proofs.Common.{refl, arith}
use Rattle.body_equality.proofs.Same.{goes_to_end}
use Rattle.body_equality.specs.RenumberedGrammars.{renumbered_set}
use Rattle.grammar_pairs.specs.Plain.{set_of}
use Rattle.body_equality.proofs.sets.same_sets.Goals as goal

pub returns : goal.returns
returns c =
    let same = goes_to_end set_of (renumbered_set c.args.numbers.now) c.args.others.now c.args.sets.now c.places.place (omega arith) (omega arith) c.places.invariant in
    (λ yes. same, λ is. refl)
