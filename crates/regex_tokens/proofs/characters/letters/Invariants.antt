use Rattle.std.proofs.Common.{◌≡◌, ◌++◌, true}
use Rattle.std.specs.List.{concat, list_all}
use Rattle.std.specs.Str.Iter.{chars_rest}
use Rattle.regex_tokens.specs.Bytes.{is_character}
use Rattle.regex_tokens.proofs.characters.letters.Given as goal

abbrev pub invariant-loop-character : goal.invariant-loop-character
invariant-loop-character l = (concat l.letters.items ++ chars_rest l.character-iterator ≡ l.text) × (list_all is_character l.letters.items ≡ true)
