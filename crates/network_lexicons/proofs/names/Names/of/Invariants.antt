use Rattle.std.proofs.Common.{◌≡◌, map, take}
use Rattle.network_lexicons.specs.Plain.{lexicon_of, names_of}
use Rattle.network_lexicons.proofs.names.Names.of.Given as goal

-- the names so far
abbrev pub invariant-lexicons : goal.invariant-lexicons
invariant-lexicons l = l.texts ≡ take l.lexicon-index (names_of (map lexicon_of l.lexicons))
