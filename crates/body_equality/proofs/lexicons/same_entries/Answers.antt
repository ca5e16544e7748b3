use Rattle.std.proofs.Common.{refl, arith}
use Rattle.body_equality.proofs.Same.{goes_to_end}
use Rattle.body_equality.specs.RenumberedLexicons.{renumbered_entry}
use Rattle.name_resolution.specs.Plain.{entry_of}
use Rattle.body_equality.proofs.lexicons.same_entries.Goals as goal

pub returns : goal.returns
returns c =
    let same = goes_to_end entry_of (renumbered_entry c.args.numbers.now) c.args.others.now c.args.entries.now c.places.place (omega arith) (omega arith) c.places.invariant in
    (λ yes. same, λ is. refl)
