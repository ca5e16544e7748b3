use Rattle.std.proofs.Common.{◌+◌, ap, arith, drop}
use Rattle.std.specs.List.{flat_map}
use Rattle.word_relations.proofs.Behind.{left_behind}
use Rattle.project_meaning.specs.Leaves.{symbol_in, symbol_of}
use Rattle.expr_leaves.specs.Leaves.{seen}
use Rattle.project_model.proofs.Gathering.{gather_more, still_short}
use Rattle.project_model.proofs.symbols.add_letters.Goals as goal

pub leaves-preserved : goal.leaves-preserved
leaves-preserved c =
    let first = symbol_in (symbol_of c.leaf-item.result.now) in
    let rest = flat_map (λ leaf. symbol_in (symbol_of leaf)) (seen (drop (c.leaves.leaf-index + 1) c.args.leaves.now)) in
    let now = rw c.symbol_text.ensures at c.in_ok-add_letter.ensures in
    record {
      same = gather_more c.leaves.table c.add_letter.new.table first rest _ _ now (ap (λ z. flat_map (λ leaf. symbol_in (symbol_of leaf)) (seen z)) (left_behind c.args.leaves.now c.leaves.leaf-index c.leaf-item.result (omega arith) c.leaf-item.is)) c.leaves.invariant.same;
      short = still_short c.add_letter.new.table c.leaves.table first now;
    }
