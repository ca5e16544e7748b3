use Rattle.body_equality.proofs.Same.{Goes}
use Rattle.body_equality.specs.RenumberedGrammars.{renumbered_definition}
use Rattle.grammar_pairs.specs.Plain.{definition_of}
use Rattle.body_equality.proofs.grammar.same_definitions.Given as goal

-- whether these are the same turns on what is left of both
abbrev pub invariant-places : goal.invariant-places
invariant-places l = Goes definition_of (renumbered_definition l.numbers) l.others l.definitions l.place
