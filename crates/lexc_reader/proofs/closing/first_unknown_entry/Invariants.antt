use Rattle.std.proofs.Common.{◌≡◌, drop, map}
use Rattle.lexc_grammar.specs.Files.{first_unknown}
use Rattle.lexc_grammar.specs.Lexicons.{entry_of}
use Rattle.lexc_reader.proofs.closing.first_unknown_entry.Given as goal

-- none so far
abbrev pub invariant-entries : goal.invariant-entries
invariant-entries l = first_unknown l.names (map entry_of (drop l.entry-index l.entries)) ≡ first_unknown l.names (map entry_of l.entries)
