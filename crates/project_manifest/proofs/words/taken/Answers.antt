use Rattle.std.proofs.Common.{◌++◌, ap, sym, ◌∙◌, append-nil, arith}
use Rattle.std.proofs.lemmas.List.{drop_all}
use Rattle.project_manifest.specs.Manifests.{taken_from, text_of}
use Rattle.project_manifest.proofs.Worded.{byte_more}
use Rattle.project_manifest.proofs.words.taken.Goals as goal

pub bytes-preserved : goal.bytes-preserved
bytes-preserved c =
    byte_more c.args.word.now c.bytes.byte-index (λ r. c.bytes.text.items ++ taken_from c.bytes.taking r) (λ r. c.take_byte.new.text.items ++ taken_from c.in_ok-taking.taking r) (text_of c.args.word.now) (omega arith) c.in_ok-taking.ensures c.bytes.invariant

pub returns : goal.returns
returns c = sym (ap (λ r. c.bytes.text.items ++ taken_from c.bytes.taking r) (drop_all c.bytes.byte-index c.args.word.now (omega arith)) ∙ append-nil c.bytes.text.items) ∙ c.bytes.invariant
