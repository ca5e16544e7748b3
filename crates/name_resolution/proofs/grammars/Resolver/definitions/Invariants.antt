use Rattle.std.proofs.Common.{◌≡◌, map, take}
use Rattle.name_resolution.proofs.grammars.Resolver.definitions.Given as goal
use Rattle.grammar_pairs.specs.Mapped.{mapped_definition}
use Rattle.grammar_pairs.specs.Plain.{definition_of}
use Rattle.name_resolution.specs.Resolved.{letter_of}

-- those so far
abbrev pub invariant-definitions : goal.invariant-definitions
invariant-definitions l = map definition_of l.found.items ≡ map (λ x. mapped_definition (letter_of l.self.names.now l.self.table.now) (definition_of x)) (take l.definition-index l.definitions)
