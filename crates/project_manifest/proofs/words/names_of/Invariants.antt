use Rattle.std.proofs.Common.{◌≡◌, take, drop}
use Rattle.std.specs.List.{list_all}
use Rattle.regex_reader.specs.Files.{is_name}
use Rattle.project_manifest.specs.Sayings.{as_written}
use Rattle.project_manifest.proofs.words.names_of.Given as goal

-- the names so far, and whether the other words are names
abbrev pub invariant-words : goal.invariant-words
invariant-words l = record {
  so_far : l.names.items ≡ as_written (take l.word-index l.words);
  all : list_all is_name (as_written (drop l.word-index l.words)) ≡ list_all is_name (as_written l.words);
}
