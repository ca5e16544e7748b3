use Rattle.std.proofs.Common.{◌+◌, [], ◌∷◌, drop, arith}
use Rattle.word_relations.proofs.Behind.{left_behind}
use Rattle.project_model.proofs.Gathering.{gather_more, still_short}
use Rattle.project_model.proofs.plan.add_texts.Goals as goal

pub texts-preserved : goal.texts-preserved
texts-preserved c =
    let text = c.text-item.result in
    record {
      same = gather_more c.texts.table c.add_text.new.table (text ∷ []) (drop (c.texts.text-index + 1) c.args.texts.now) _ _ c.in_ok-add_text.ensures (left_behind c.args.texts.now c.texts.text-index text (omega arith) c.text-item.is) c.texts.invariant.same;
      short = still_short c.add_text.new.table c.texts.table (text ∷ []) c.in_ok-add_text.ensures;
    }
