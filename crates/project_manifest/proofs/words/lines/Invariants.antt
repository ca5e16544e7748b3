use Rattle.std.proofs.Common.{◌≡◌, ◌++◌, drop}
use Rattle.project_manifest.specs.Manifests.{lines_from, lines_of}
use Rattle.project_manifest.specs.Sayings.{as_written}
use Rattle.project_manifest.proofs.words.lines.Given as goal

-- the lines so far, and those of the other bytes
abbrev pub invariant-bytes : goal.invariant-bytes
invariant-bytes l = as_written l.lines.items ++ lines_from l.line.items (drop l.byte-index l.text) ≡ lines_of l.text
