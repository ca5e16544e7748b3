use Rattle.std.proofs.Common.{◌≡◌, ◌++◌, ◌∷◌, [], ap, ◌∙◌}
use Rattle.std.specs.List.{concat, list_all}
use Rattle.std.specs.Char.{encode_utf8}
use Rattle.std.specs.Str.Iter.{chars_rest}
use Rattle.regex_tokens.specs.Bytes.{is_character}
use Rattle.regex_tokens.proofs.Utf8.{letters_go_on, characters-append}
use Rattle.regex_tokens.proofs.characters.letters.Goals as goal

pub loop-character-preserved : goal.loop-character-preserved
loop-character-preserved c =
    let pushed : c.push.new.self.items ≡ c.loop-character.letters.items ++ encode_utf8 c.in-Some.character ∷ [] = c.in_ok-push.ensures.items ∙ ap (λ x. c.loop-character.letters.items ++ x ∷ []) c.in_ok-letter.ensures in (
      ap (λ xs. concat xs ++ chars_rest c.next.new.self) pushed ∙ letters_go_on c.loop-character.letters.items _ (chars_rest c.next.new.self) _ c.in-Some.character c.in-Some.ensures.steps.0 c.loop-character.invariant.0,
      ap (list_all is_character) pushed ∙ characters-append c.loop-character.letters.items c.in-Some.character c.loop-character.invariant.1,
    )
