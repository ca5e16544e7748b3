use Rattle.std.proofs.Common.{sym, ap, ◌∙◌}
use Rattle.regex_tokens.specs.Reading.{piece_len}
use Rattle.twolc_tokens.specs.Spelling.{is_run_byte}
use Rattle.regex_tokens.proofs.Pieces.{go_on, past_end, piece_none}
use Rattle.twolc_tokens.proofs.bytes.run_len.Goals as goal

pub pieces-preserved : goal.pieces-preserved
pieces-preserved c =
    go_on is_run_byte c.args.bytes.now c.pieces.len c.piece_len-piece.result (c.piece_len-piece.ensures ∙ ap (piece_len is_run_byte) c.split_at.ensures.back) c.if-piece-eq0.false c.pieces.invariant.0 c.pieces.invariant.1

pub returns-after-pieces : goal.returns-after-pieces
returns-after-pieces c = past_end is_run_byte c.args.bytes.now c.pieces.len (piece_none _ _ _ c.pieces-test.false) c.pieces.invariant.1

pub returns-then-piece-eq0 : goal.returns-then-piece-eq0
returns-then-piece-eq0 c = past_end is_run_byte c.args.bytes.now c.pieces.len (sym (c.piece_len-piece.ensures ∙ ap (piece_len is_run_byte) c.split_at.ensures.back) ∙ c.if-piece-eq0.true) c.pieces.invariant.1
