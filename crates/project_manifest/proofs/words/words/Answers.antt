use Rattle.std.proofs.Common.{◌++◌, ap, sym, ◌∙◌, arith}
use Rattle.std.proofs.lemmas.List.{drop_all}
use Rattle.project_manifest.specs.Manifests.{words_from, words_of}
use Rattle.project_manifest.specs.Sayings.{as_written}
use Rattle.project_manifest.proofs.Worded.{byte_more}
use Rattle.project_manifest.proofs.words.words.Goals as goal

pub bytes-preserved : goal.bytes-preserved
bytes-preserved c =
    byte_more c.args.line.now c.bytes.byte-index (λ r. as_written c.bytes.words.items ++ words_from c.bytes.word.items c.bytes.taking r) (λ r. as_written c.add_to_word.new.words.items ++ words_from c.add_to_word.new.word.items c.in_ok-taking.taking r) (words_of c.args.line.now) (omega arith) c.in_ok-taking.ensures c.bytes.invariant

pub returns : goal.returns
returns c = c.in_ok-end_word.ensures.words ∙ ap (λ r. as_written c.bytes.words.items ++ words_from c.bytes.word.items c.bytes.taking r) (sym (drop_all c.bytes.byte-index c.args.line.now (omega arith))) ∙ c.bytes.invariant
