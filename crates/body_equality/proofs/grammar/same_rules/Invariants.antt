use Rattle.body_equality.proofs.Same.{Goes}
use Rattle.body_equality.specs.RenumberedGrammars.{renumbered_rule}
use Rattle.grammar_pairs.specs.Plain.{rule_of}
use Rattle.body_equality.proofs.grammar.same_rules.Given as goal

-- whether these are the same turns on what is left of both
abbrev pub invariant-places : goal.invariant-places
invariant-places l = Goes rule_of (renumbered_rule l.numbers) l.others l.rules l.place
