use Rattle.std.proofs.Common.{arith, sym, subst}
use Rattle.std.specs.Str.{IsUtf8}
use Rattle.project_manifest.proofs.Utf8.{word_at}
use Rattle.project_manifest.proofs.declarations.named_file.Goals as goal

pub text_of_bytes-requires : goal.text_of_bytes-requires
text_of_bytes-requires c = subst IsUtf8 (sym c.deref-2.ensures.value) (word_at c.args.words.now 0 c.name-item.result (omega arith) c.name-item.is c.requires)

pub text_of_bytes-requires-2 : goal.text_of_bytes-requires-2
text_of_bytes-requires-2 c = subst IsUtf8 (sym c.deref-3.ensures.value) (word_at c.args.words.now 1 c.file-item.result (omega arith) c.file-item.is c.requires)
