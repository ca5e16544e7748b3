use Rattle.std.proofs.Common.{◌++◌, ap, sym, ◌∙◌, arith}
use Rattle.std.proofs.lemmas.List.{drop_all}
use Rattle.project_manifest.specs.Manifests.{lines_from, lines_of}
use Rattle.project_manifest.specs.Sayings.{as_written}
use Rattle.project_manifest.proofs.Worded.{byte_more}
use Rattle.project_manifest.proofs.words.lines.Goals as goal

pub bytes-preserved : goal.bytes-preserved
bytes-preserved c =
    byte_more c.args.text.now c.bytes.byte-index (λ r. as_written c.bytes.lines.items ++ lines_from c.bytes.line.items r) (λ r. as_written c.add_to_line.new.lines.items ++ lines_from c.add_to_line.new.line.items r) (lines_of c.args.text.now) (omega arith) c.in_ok-add_to_line.ensures c.bytes.invariant

pub returns : goal.returns
returns c = c.in_ok-end_word.ensures.words ∙ ap (λ r. as_written c.bytes.lines.items ++ lines_from c.bytes.line.items r) (sym (drop_all c.bytes.byte-index c.args.text.now (omega arith))) ∙ c.bytes.invariant
