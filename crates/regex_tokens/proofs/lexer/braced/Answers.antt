use Rattle.std.proofs.Common.{◌==◌, ◌+◌, refl, length, sym, ap, subst, ◌∙◌, arith}
use Rattle.regex_tokens.specs.Bytes.{begins, is_braced_byte}
use Rattle.regex_tokens.specs.Reading.{IsPiecesLen}
use Rattle.regex_tokens.proofs.Spells.{Braces, braced_some, braced_nothing}
use Rattle.regex_tokens.proofs.Utf8.{first_boundary, pieces_boundary, braced_stops}
use Rattle.regex_tokens.proofs.lexer.braced.Goals as goal

pub split_at-requires : goal.split_at-requires
split_at-requires c = first_boundary 123 c.args.text.now (omega arith) c.requires c.utf8.text

pub split_at-requires-2 : goal.split_at-requires-2
split_at-requires-2 c = pieces_boundary is_braced_byte braced_stops c.split_at.result.1.now c.pieces_len.result (subst (λ bs. IsPiecesLen is_braced_byte bs c.pieces_len.result) c.as_bytes.ensures.value c.pieces_len.ensures)

pub returns-then-not-begins_with : goal.returns-then-not-begins_with
returns-then-not-begins_with c =
    let cut : Braces c.args.text.now c.split_at.result.1.now c.split_at-2.result.0.now c.split_at-2.result.1.now c.pieces_len.result = record {
      utf8 = c.utf8.text;
      first = c.requires;
      is_behind = c.split_at.ensures.back;
      size = subst (λ bs. IsPiecesLen is_braced_byte bs c.pieces_len.result) c.as_bytes.ensures.value c.pieces_len.ensures;
      is_inner = c.split_at-2.ensures.front;
      is_end = c.split_at-2.ensures.back;
    } in
    braced_nothing c.args.text.now c.split_at.result.1.now c.split_at-2.result.0.now c.split_at-2.result.1.now c.pieces_len.result cut
    (sym (c.begins_with.ensures ∙ ap (begins (λ b. b == 125)) c.as_bytes-2.ensures.value) ∙ c.if-not-begins_with.true)

pub returns : goal.returns
returns c =
    let cut : Braces c.args.text.now c.split_at.result.1.now c.split_at-2.result.0.now c.split_at-2.result.1.now c.pieces_len.result = record {
      utf8 = c.utf8.text;
      first = c.requires;
      is_behind = c.split_at.ensures.back;
      size = subst (λ bs. IsPiecesLen is_braced_byte bs c.pieces_len.result) c.as_bytes.ensures.value c.pieces_len.ensures;
      is_inner = c.split_at-2.ensures.front;
      is_end = c.split_at-2.ensures.back;
    } in
    braced_some c.args.text.now c.split_at.result.1.now c.split_at-2.result.0.now c.split_at-2.result.1.now c.pieces_len.result (length c.split_at-2.result.0.now + 2) c.in_ok-letters.letters cut
    (sym (c.begins_with.ensures ∙ ap (begins (λ b. b == 125)) c.as_bytes-2.ensures.value) ∙ c.if-not-begins_with.false)
    c.in_ok-letters.ensures.single (c.in_ok-letters.ensures.joined ∙ c.deref.ensures ∙ c.in_ok-undone.ensures) refl
