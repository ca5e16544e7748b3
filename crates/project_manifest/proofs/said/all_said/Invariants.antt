use Rattle.std.proofs.Common.{◌≡◌, ◌+◌, ◌++◌, map, drop}
use Rattle.project_manifest.specs.Manifests.{sayings, statements_in}
use Rattle.project_manifest.specs.Sayings.{as_written, saying_of}
use Rattle.project_manifest.proofs.said.all_said.Given as goal

-- what the lines so far say, and what is in the others
abbrev pub invariant-lines : goal.invariant-lines
invariant-lines l = map saying_of l.found.items ++ sayings (l.index + 1) (as_written (drop l.index l.line-items)) ≡ statements_in l.text
