use Rattle.std.proofs.Common.{take}
use Rattle.std.specs.List.{Contains}
use Rattle.project_manifest.proofs.manifest.is_among.Given as goal

-- none of those so far is the file
abbrev pub invariant-files : goal.invariant-files
invariant-files l = Contains (take l.named-index l.files) l.file → ⊥
