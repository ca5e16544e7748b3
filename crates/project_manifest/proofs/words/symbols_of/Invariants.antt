use Rattle.std.proofs.Common.{◌≡◌, map, take, drop}
use Rattle.std.specs.List.{list_all}
use Rattle.project_manifest.specs.Manifests.{is_symbol_word, text_of}
use Rattle.project_manifest.specs.Sayings.{as_written}
use Rattle.project_manifest.proofs.words.symbols_of.Given as goal

-- the symbols so far, and whether the other words are symbols
abbrev pub invariant-words : goal.invariant-words
invariant-words l = record {
  so_far : l.symbols.items ≡ map text_of (as_written (take l.word-index l.words));
  all : list_all is_symbol_word (as_written (drop l.word-index l.words)) ≡ list_all is_symbol_word (as_written l.words);
}
