use Rattle.std.proofs.Common.{map, take}
use Rattle.network_lexicons.specs.Plain.{lexicon_of}
use Rattle.network_lexicons.proofs.Gathered.{HasLexicons}
use Rattle.network_lexicons.proofs.entries.add_lexicons.Given as goal

abbrev pub invariant-lexicons : goal.invariant-lexicons
invariant-lexicons l = HasLexicons l.parts l.alphabet l.names l.fn.flags l.flags (take l.place (map lexicon_of l.lexicons)) l.fn.builder l.builder
