use Rattle.std.proofs.Common.{◌≡◌, map}
use Rattle.project_model.specs.Answers.{written_of}
use Rattle.project_definitions.specs.Entries.{entry_in, entry_of}
use Rattle.project_model.proofs.plan.define_each.Given as goal

-- the definitions so far
abbrev pub invariant-written : goal.invariant-written
invariant-written l = map entry_of l.definitions.items ≡ map (entry_in l.names l.table) (map written_of l.yielded)
