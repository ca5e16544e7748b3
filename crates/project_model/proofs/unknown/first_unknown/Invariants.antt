use Rattle.std.proofs.Common.{map, take}
use Rattle.regex_ast.specs.declared.fault.Fault.{Fault}
use Rattle.project_manifest.specs.Sayings.{placed_of}
use Rattle.project_model.specs.Answers.{UnknownFault}
use Rattle.project_model.proofs.unknown.first_unknown.Given as goal

-- no line so far requires another name
abbrev pub invariant-lines : goal.invariant-lines
invariant-lines l = (found : Fault) → UnknownFault l.names (map placed_of (take l.line-index l.lines)) found → ⊥
