use Rattle.std.proofs.Common.{◌==◌, ◌+◌, refl, length, sym, ap, subst, ◌∙◌, arith, Some}
use Rattle.std.specs.List.{prefix_len}
use Rattle.std.specs.Str.{IsCharBoundary}
use Rattle.regex_tokens.specs.Bytes.{begins, is_quoted_byte}
use Rattle.regex_tokens.proofs.Spells.{Quotes}
use Rattle.regex_tokens.proofs.Utf8.{first_boundary, quoted_boundary}
use Rattle.twolc_tokens.specs.Reading.{IsRead}
use Rattle.twolc_tokens.specs.declared.token.Token.TheVariants.{Quoted as quoted}
use Rattle.twolc_tokens.proofs.Fronts.{quoted_some, quoted_nothing}
use Rattle.twolc_tokens.proofs.lexer.quoted.Goals as goal

pub split_at-requires : goal.split_at-requires
split_at-requires c = first_boundary 34 c.args.text.now (omega arith) c.requires.first c.utf8.text

pub split_at-requires-2 : goal.split_at-requires-2
split_at-requires-2 c = subst (IsCharBoundary c.split_at.result.1.now) (sym (c.front_len.ensures ∙ ap (prefix_len is_quoted_byte) c.as_bytes.ensures.value)) (quoted_boundary c.split_at.result.1.now)

pub returns-then-not-begins_with : goal.returns-then-not-begins_with
returns-then-not-begins_with c =
    let cut : Quotes c.args.text.now c.split_at.result.1.now c.split_at-2.result.0.now c.split_at-2.result.1.now c.front_len.result = record {
      utf8 = c.utf8.text;
      first = c.requires.first;
      is_behind = c.split_at.ensures.back;
      size = c.front_len.ensures ∙ ap (prefix_len is_quoted_byte) c.as_bytes.ensures.value;
      is_inner = c.split_at-2.ensures.front;
      is_end = c.split_at-2.ensures.back;
    } in
    quoted_nothing c.args.text.now c.split_at.result.1.now c.split_at-2.result.0.now c.split_at-2.result.1.now c.front_len.result c.requires.no_atom cut
    (sym (c.begins_with.ensures ∙ ap (begins (λ b. b == 34)) c.as_bytes-2.ensures.value) ∙ c.if-not-begins_with.true)

pub returns : goal.returns
returns c =
    let cut : Quotes c.args.text.now c.split_at.result.1.now c.split_at-2.result.0.now c.split_at-2.result.1.now c.front_len.result = record {
      utf8 = c.utf8.text;
      first = c.requires.first;
      is_behind = c.split_at.ensures.back;
      size = c.front_len.ensures ∙ ap (prefix_len is_quoted_byte) c.as_bytes.ensures.value;
      is_inner = c.split_at-2.ensures.front;
      is_end = c.split_at-2.ensures.back;
    } in
    subst (λ text. IsRead c.args.text.now (Some (quoted text, length c.split_at-2.result.0.now + 2))) (sym c.in_ok-text.ensures)
    (quoted_some c.args.text.now c.split_at.result.1.now c.split_at-2.result.0.now c.split_at-2.result.1.now c.front_len.result (length c.split_at-2.result.0.now + 2) c.requires.no_atom cut
    (sym (c.begins_with.ensures ∙ ap (begins (λ b. b == 34)) c.as_bytes-2.ensures.value) ∙ c.if-not-begins_with.false) refl)
