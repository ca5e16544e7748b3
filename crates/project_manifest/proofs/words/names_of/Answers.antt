use Rattle.std.proofs.Common.{sym, subst, arith}
use Rattle.std.specs.Str.{IsUtf8}
use Rattle.project_manifest.proofs.Utf8.{word_at}
use Rattle.project_manifest.proofs.words.names_of.Goals as goal

pub text_of_bytes-requires : goal.text_of_bytes-requires
text_of_bytes-requires c = subst IsUtf8 (sym c.deref-in-words.ensures.value) (word_at c.args.words.now c.words.word-index c.word-item.result (omega arith) c.word-item.is c.requires)
