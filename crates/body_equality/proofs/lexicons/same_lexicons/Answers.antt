use Rattle.std.proofs.Common.{refl, arith}
use Rattle.body_equality.proofs.Same.{goes_to_end}
use Rattle.body_equality.specs.RenumberedLexicons.{renumbered_lexicon}
use Rattle.name_resolution.specs.Plain.{lexicon_of}
use Rattle.body_equality.proofs.lexicons.same_lexicons.Goals as goal

pub returns : goal.returns
returns c =
    let same = goes_to_end lexicon_of (renumbered_lexicon c.args.numbers.now) c.args.others.now c.args.lexicons.now c.places.place (omega arith) (omega arith) c.places.invariant in
    (λ yes. same, λ is. refl)
