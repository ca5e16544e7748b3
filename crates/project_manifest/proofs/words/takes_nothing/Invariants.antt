use Rattle.std.proofs.Common.{◌≡◌, false, drop}
use Rattle.project_manifest.specs.Manifests.{takes_nothing}
use Rattle.project_manifest.proofs.words.takes_nothing.Given as goal

-- the other bytes are left
abbrev pub invariant-bytes : goal.invariant-bytes
invariant-bytes l = takes_nothing l.taking (drop l.byte-index l.word) ≡ takes_nothing false l.word
