use Rattle.std.proofs.Common.{◌+◌, ap, arith, drop}
use Rattle.std.specs.List.{flat_map}
use Rattle.word_relations.proofs.Behind.{left_behind}
use Rattle.name_resolution.specs.Symbols.{symbol_beside}
use Rattle.expr_leaves.specs.Leaves.{seen}
use Rattle.project_model.proofs.Gathering.{gather_more, still_short}
use Rattle.project_model.proofs.symbols.add_symbols.Goals as goal

pub leaves-preserved : goal.leaves-preserved
leaves-preserved c =
    let first = symbol_beside c.args.names.now c.leaf-item.result.now in
    let rest = flat_map (symbol_beside c.args.names.now) (seen (drop (c.leaves.leaf-index + 1) c.args.leaves.now)) in
    record {
      same = gather_more c.leaves.table c.add_symbol.new.table first rest _ _ c.in_ok-add_symbol.ensures (ap (λ z. flat_map (symbol_beside c.args.names.now) (seen z)) (left_behind c.args.leaves.now c.leaves.leaf-index c.leaf-item.result (omega arith) c.leaf-item.is)) c.leaves.invariant.same;
      short = still_short c.add_symbol.new.table c.leaves.table first c.in_ok-add_symbol.ensures;
    }
