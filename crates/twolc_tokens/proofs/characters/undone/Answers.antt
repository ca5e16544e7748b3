use Rattle.std.proofs.Common.{◌≡◌, ◌++◌, ◌==◌, ◌&&◌, false, not, ap, ◌∙◌, string_bytes}
use Rattle.std.specs.Char.{encode_utf8}
use Rattle.std.specs.Str.Iter.{chars_rest}
use Rattle.regex_tokens.specs.Reading.{undone_from}
use Rattle.regex_tokens.proofs.Utf8.{undone_goes_on, in_escape, no_percent}
use Rattle.twolc_tokens.proofs.characters.undone.Goals.{else-character-eq37-via-then-character-eq37+else-not-escaped, else-character-eq37-via-else-character-eq37}
use Rattle.twolc_tokens.proofs.characters.undone.Goals as goal

pub loop-character-preserved : goal.loop-character-preserved
loop-character-preserved c =
    let plain : (c.in-Some.character == 37 && not c.loop-character.escaped) ≡ false = elim c.else-character-eq37.branch [
      | else-character-eq37-via-then-character-eq37+else-not-escaped w ↦ in_escape c.in-Some.character c.loop-character.escaped w.if-not-escaped.false
      | else-character-eq37-via-else-character-eq37 w ↦ no_percent c.in-Some.character c.loop-character.escaped w.if-character-eq37.false
    ] in
    let pushed : string_bytes c.push.new.self ≡ string_bytes c.loop-character.undone ++ encode_utf8 c.in-Some.character = c.in_ok-push.ensures.bytes in
    ap (λ bs. bs ++ undone_from false (chars_rest c.next.new.self)) pushed
    ∙ undone_goes_on (string_bytes c.loop-character.undone) _ (chars_rest c.next.new.self) _ c.loop-character.escaped c.in-Some.character plain c.in-Some.ensures.steps.0 c.loop-character.invariant
