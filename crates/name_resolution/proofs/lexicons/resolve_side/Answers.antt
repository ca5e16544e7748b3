use Rattle.std.proofs.Common.{arith}
use Rattle.name_resolution.proofs.Rows.{row_more, twice_ended}
use Rattle.name_resolution.proofs.lexicons.resolve_side.Goals as goal
use Rattle.name_resolution.specs.NumberedLexicons.{piece_in}
use Rattle.name_resolution.specs.Plain.{piece_of}

pub side-preserved : goal.side-preserved
side-preserved c =
    row_more piece_of (λ p. piece_in c.args.names.now c.args.table.now (piece_of p)) c.args.side.now c.side.piece-index c.side.found.items c.piece-item.result c.push.new.self.items c.in_ok-resolve_piece.field-0
    (omega arith) c.piece-item.is c.in_ok-push.ensures.items c.in_ok-resolve_piece.ensures c.side.invariant

pub returns : goal.returns
returns c = twice_ended piece_of piece_of (piece_in c.args.names.now c.args.table.now) c.args.side.now c.side.piece-index c.side.found.items (omega arith) c.side.invariant
