use Rattle.std.proofs.Common.{subst, sym, ◌∙◌}
use Rattle.std.specs.Str.{IsUtf8}
use Rattle.project_manifest.proofs.Utf8.{word_text}
use Rattle.project_manifest.proofs.words.symbol_of.Goals as goal

pub text_of_bytes-requires : goal.text_of_bytes-requires
text_of_bytes-requires c = subst IsUtf8 (sym (c.deref-2.ensures.value ∙ c.in_ok-text.ensures)) (word_text c.args.word.now c.requires)
