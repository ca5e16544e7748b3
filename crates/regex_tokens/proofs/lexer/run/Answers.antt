use Rattle.std.proofs.Common.{◌≡◌, ◌<◌, ◌==◌, length, sym, ap, subst, ◌∙◌}
use Rattle.std.specs.List.{list_any}
use Rattle.regex_tokens.specs.Bytes.{is_run_byte}
use Rattle.regex_tokens.specs.Reading.{IsPiecesLen}
use Rattle.regex_tokens.proofs.Spells.{run_some, run_nothing}
use Rattle.regex_tokens.proofs.Lists.{some_of, none_of}
use Rattle.regex_tokens.proofs.Utf8.{pieces_boundary, run_stops}
use Rattle.regex_tokens.proofs.lexer.run.Goals as goal

pub split_at-requires : goal.split_at-requires
split_at-requires c = pieces_boundary is_run_byte run_stops c.args.text.now c.pieces_len.result (subst (λ bs. IsPiecesLen is_run_byte bs c.pieces_len.result) c.as_bytes.ensures.value c.pieces_len.ensures)

pub returns-then-is_empty : goal.returns-then-is_empty
returns-then-is_empty c =
    run_nothing c.args.text.now c.split_at.result.0.now c.pieces_len.result (subst (λ bs. IsPiecesLen is_run_byte bs c.pieces_len.result) c.as_bytes.ensures.value c.pieces_len.ensures)
    c.split_at.ensures.front c.requires (none_of (length c.split_at.result.0.now) (sym c.is_empty.ensures ∙ c.if-is_empty.true))

pub returns : goal.returns
returns c =
    let size : IsPiecesLen is_run_byte c.args.text.now c.pieces_len.result = subst (λ bs. IsPiecesLen is_run_byte bs c.pieces_len.result) c.as_bytes.ensures.value c.pieces_len.ensures in
    let some : 0 < length c.split_at.result.0.now = some_of (length c.split_at.result.0.now) (sym c.is_empty.ensures ∙ c.if-is_empty.false) in
    let marked : c.has_escape.result ≡ list_any (λ b. b == 37) c.split_at.result.0.now = c.has_escape.ensures ∙ ap (list_any (λ b. b == 37)) c.as_bytes-2.ensures.value in
    run_some c.args.text.now c.split_at.result.0.now c.pieces_len.result (length c.split_at.result.0.now) (record { text = c.in_ok-from_string.field-0; escaped = c.has_escape.result })
    size c.split_at.ensures.front some (c.in_ok-from_string.ensures ∙ c.in_ok-undone.ensures) marked c.split_at.ensures.front_len
