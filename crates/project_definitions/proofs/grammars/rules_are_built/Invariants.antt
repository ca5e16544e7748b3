use Rattle.std.proofs.Common.{All, take}
use Rattle.project_definitions.specs.Passing.{IsBuiltRule}
use Rattle.project_definitions.proofs.grammars.rules_are_built.Given as goal

-- those so far can be built
abbrev pub invariant-rules : goal.invariant-rules
invariant-rules l = All IsBuiltRule (take l.rule-index l.rules)
