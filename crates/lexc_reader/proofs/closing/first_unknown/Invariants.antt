use Rattle.std.proofs.Common.{◌≡◌, drop}
use Rattle.lexc_grammar.specs.Files.{first_unknown}
use Rattle.lexc_reader.proofs.Closings.{entries_of}
use Rattle.lexc_reader.proofs.closing.first_unknown.Given as goal

-- none so far
abbrev pub invariant-lexicons : goal.invariant-lexicons
invariant-lexicons l = first_unknown l.names (entries_of (drop l.lexicon-index l.lexicons)) ≡ first_unknown l.names (entries_of l.lexicons)
