use Rattle.std.proofs.Common.{◌≡◌, ◌++◌, false, string_bytes}
use Rattle.std.specs.Str.Iter.{chars_rest}
use Rattle.regex_tokens.specs.Reading.{undone_from}
use Rattle.twolc_tokens.proofs.characters.undone.Given as goal

abbrev pub invariant-loop-character : goal.invariant-loop-character
invariant-loop-character l = string_bytes l.undone ++ undone_from l.escaped (chars_rest l.character-iterator) ≡ undone_from false l.run
