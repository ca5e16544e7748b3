use Rattle.std.proofs.Common.{◌++◌, ap, sym, ◌∙◌, append-nil}
use Rattle.project_manifest.specs.Manifests.{some_of}
use Rattle.project_manifest.specs.Sayings.{as_written}
use Rattle.project_manifest.proofs.Worded.{empty_vec}
use Rattle.project_manifest.proofs.words.end_word.Goals as goal

pub returns-then-is_empty-clause-word : goal.returns-then-is_empty-clause-word
returns-then-is_empty-clause-word c = empty_vec c.args.word.now (sym c.is_empty.ensures ∙ c.if-is_empty.true)

pub returns-then-is_empty-clause-words : goal.returns-then-is_empty-clause-words
returns-then-is_empty-clause-words c = sym (ap (λ z. as_written c.args.words.now.items ++ some_of z) (empty_vec c.args.word.now (sym c.is_empty.ensures ∙ c.if-is_empty.true)) ∙ append-nil (as_written c.args.words.now.items))
