use Rattle.std.proofs.Common.{◌+◌, ap, arith, drop, map}
use Rattle.std.specs.List.{flat_map}
use Rattle.word_relations.proofs.Behind.{left_behind}
use Rattle.name_resolution.specs.Plain.{piece_of}
use Rattle.name_resolution.specs.Symbols.{symbols_in_piece}
use Rattle.project_model.proofs.Gathering.{gather_more, still_short}
use Rattle.project_model.proofs.symbols.add_side.Goals as goal

pub pieces-preserved : goal.pieces-preserved
pieces-preserved c =
    let first = symbols_in_piece (piece_of c.piece-item.result) in
    let rest = flat_map symbols_in_piece (map piece_of (drop (c.pieces.piece-index + 1) c.args.side.now)) in
    record {
      same = gather_more c.pieces.table c.add_piece.new.table first rest _ _ c.in_ok-add_piece.ensures (ap (λ z. flat_map symbols_in_piece (map piece_of z)) (left_behind c.args.side.now c.pieces.piece-index c.piece-item.result (omega arith) c.piece-item.is)) c.pieces.invariant.same;
      short = still_short c.add_piece.new.table c.pieces.table first c.in_ok-add_piece.ensures;
    }
