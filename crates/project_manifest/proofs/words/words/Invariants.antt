use Rattle.std.proofs.Common.{◌≡◌, ◌++◌, drop}
use Rattle.project_manifest.specs.Manifests.{words_from, words_of}
use Rattle.project_manifest.specs.Sayings.{as_written}
use Rattle.project_manifest.proofs.words.words.Given as goal

-- the words so far, and those of the other bytes
abbrev pub invariant-bytes : goal.invariant-bytes
invariant-bytes l = as_written l.words.items ++ words_from l.word.items l.taking (drop l.byte-index l.line) ≡ words_of l.line
