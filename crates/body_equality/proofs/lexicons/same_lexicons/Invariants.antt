use Rattle.body_equality.proofs.Same.{Goes}
use Rattle.body_equality.specs.RenumberedLexicons.{renumbered_lexicon}
use Rattle.name_resolution.specs.Plain.{lexicon_of}
use Rattle.body_equality.proofs.lexicons.same_lexicons.Given as goal

-- whether these are the same turns on what is left of both
abbrev pub invariant-places : goal.invariant-places
invariant-places l = Goes lexicon_of (renumbered_lexicon l.numbers) l.others l.lexicons l.place
