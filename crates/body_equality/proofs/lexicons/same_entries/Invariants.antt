use Rattle.body_equality.proofs.Same.{Goes}
use Rattle.body_equality.specs.RenumberedLexicons.{renumbered_entry}
use Rattle.name_resolution.specs.Plain.{entry_of}
use Rattle.body_equality.proofs.lexicons.same_entries.Given as goal

-- whether these are the same turns on what is left of both
abbrev pub invariant-places : goal.invariant-places
invariant-places l = Goes entry_of (renumbered_entry l.numbers) l.others l.entries l.place
