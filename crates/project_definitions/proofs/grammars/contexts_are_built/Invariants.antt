use Rattle.std.proofs.Common.{All, take}
use Rattle.project_definitions.specs.Passing.{IsBuiltContext}
use Rattle.project_definitions.proofs.grammars.contexts_are_built.Given as goal

-- those so far can be built
abbrev pub invariant-contexts : goal.invariant-contexts
invariant-contexts l = All IsBuiltContext (take l.context-index l.contexts)
