use Rattle.std.proofs.Common.{◌≡◌, ◌++◌, drop}
use Rattle.project_manifest.specs.Manifests.{taken_from, text_of}
use Rattle.project_manifest.proofs.words.taken.Given as goal

-- the text so far, and that of the other bytes
abbrev pub invariant-bytes : goal.invariant-bytes
invariant-bytes l = l.text.items ++ taken_from l.taking (drop l.byte-index l.word) ≡ text_of l.word
