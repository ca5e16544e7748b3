use Rattle.std.proofs.Common.{◌≡◌, ◌++◌}
use Rattle.generated_report.specs.Generated.{entries}
use Rattle.generated_report.proofs.project.add_entries.Given as goal

-- the entries of the stems so far
abbrev pub invariant-stems : goal.invariant-stems
invariant-stems l = l.bytes.items ≡ l.fn.bytes.items ++ entries l.number
