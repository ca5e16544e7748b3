use Rattle.std.proofs.Common.{All, take}
use Rattle.project_definitions.specs.Passing.{IsBuiltDefinition}
use Rattle.project_definitions.proofs.grammars.definitions_are_built.Given as goal

-- those so far can be built
abbrev pub invariant-definitions : goal.invariant-definitions
invariant-definitions l = All IsBuiltDefinition (take l.definition-index l.definitions)
