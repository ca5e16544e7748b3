use Rattle.std.proofs.Common.{Result, drop}
use Rattle.regex_ast.specs.declared.fault.Fault.{Fault}
use Rattle.project_sources.specs.Edits.{Apply, Holding, held_in}
use Rattle.project_edits.specs.Applied.{edits_of}
use Rattle.project_edits.proofs.applying.apply.Given as goal

-- what the further edits make of the files so far, all edits make of the first ones
abbrev pub invariant-edits : goal.invariant-edits
invariant-edits l = (out : Result Holding Fault) → Apply (edits_of (drop l.edit-index l.fn.change)) (held_in l.new) out → Apply (edits_of l.fn.change) (held_in l.fn.sources) out
