use Rattle.std.proofs.Common.{◌≡◌, map}
use Rattle.name_resolution.specs.NumberedLexicons.{lexicon_in}
use Rattle.name_resolution.specs.Plain.{lexicon_of, lines_of}
use Rattle.name_resolution.proofs.lexicons.resolve_lexicons.Given as goal

-- the lexicons so far
abbrev pub invariant-lexicons : goal.invariant-lexicons
invariant-lexicons l = record {
  lexicons : map lexicon_of l.found.items ≡ map (lexicon_in l.names l.table) (map lexicon_of l.yielded);
  lines : map lines_of l.found.items ≡ map lines_of l.yielded;
}
