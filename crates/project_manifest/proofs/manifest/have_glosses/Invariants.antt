use Rattle.std.proofs.Common.{map, take}
use Rattle.project_manifest.specs.Reading.{HaveGlosses}
use Rattle.project_manifest.specs.Sayings.{placed_of}
use Rattle.project_manifest.proofs.manifest.have_glosses.Given as goal

-- none of the lines so far does
abbrev pub invariant-lines : goal.invariant-lines
invariant-lines l = HaveGlosses (map placed_of (take l.line-index l.lines)) → ⊥
