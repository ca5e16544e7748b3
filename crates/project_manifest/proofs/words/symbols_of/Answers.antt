use Rattle.std.proofs.Common.{map, sym, ap, subst, ◌∙◌, arith}
use Rattle.std.proofs.lemmas.List.{drop_all, take_all}
use Rattle.std.specs.List.{list_all}
use Rattle.std.specs.Str.{IsUtf8}
use Rattle.project_manifest.specs.Manifests.{is_symbol_word, text_of}
use Rattle.project_manifest.specs.Sayings.{as_written}
use Rattle.project_manifest.proofs.Utf8.{word_at}
use Rattle.project_manifest.proofs.Worded.{symbol_never, symbols_left, symbols_more}
use Rattle.project_manifest.proofs.words.symbols_of.Goals as goal

pub returns-in_default : goal.returns-in_default
returns-in_default c =
    let never = rw c.in_default.is at c.in_ok-symbol.ensures in
    symbol_never c.args.words.now c.words.word-index c.word-item.result (omega arith) c.word-item.is (sym (ap is_symbol_word c.deref.ensures.value) ∙ never) c.words.invariant.all

pub words-preserved : goal.words-preserved
words-preserved c =
    let read = rw c.in-Some.is at c.in_ok-symbol.ensures in
    record {
      so_far = symbols_more c.args.words.now c.words.word-index c.word-item.result (omega arith) c.word-item.is c.words.symbols.items c.push.new.self.items c.in-Some.symbol c.in_ok-push.ensures.items (read.1 ∙ ap text_of c.deref.ensures.value) c.words.invariant.so_far;
      all = symbols_left c.args.words.now c.words.word-index c.word-item.result (omega arith) c.word-item.is (sym (ap is_symbol_word c.deref.ensures.value) ∙ read.0) c.words.invariant.all;
    }

pub returns : goal.returns
returns c = (
  sym c.words.invariant.all ∙ ap (λ z. list_all is_symbol_word (as_written z)) (drop_all c.words.word-index c.args.words.now (omega arith)),
  c.words.invariant.so_far ∙ ap (λ z. map text_of (as_written z)) (take_all c.words.word-index c.args.words.now (omega arith)),
)

pub symbol_of-requires : goal.symbol_of-requires
symbol_of-requires c = subst IsUtf8 (sym c.deref.ensures.value) (word_at c.args.words.now c.words.word-index c.word-item.result (omega arith) c.word-item.is c.requires)
