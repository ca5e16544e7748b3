use Rattle.std.proofs.Common.{◌+◌, map, drop, ap, arith}
use Rattle.word_relations.proofs.Behind.{left_behind}
use Rattle.project_model.specs.Answers.{written_of}
use Rattle.project_model.specs.Gathered.{symbols_beside, symbols_of_all}
use Rattle.project_model.proofs.Gathering.{gather_more, still_short}
use Rattle.project_model.proofs.symbols.symbols_of.Goals as goal

pub written-preserved : goal.written-preserved
written-preserved c =
    let first = symbols_beside c.args.names.now (written_of c.one-item.result) in
    let rest = symbols_of_all c.args.names.now (map written_of (drop (c.written.one-index + 1) c.args.written.now)) in
    record {
      same = gather_more c.written.table c.add_body.new.table first rest _ _ c.in_ok-add_body.ensures (ap (λ z. symbols_of_all c.args.names.now (map written_of z)) (left_behind c.args.written.now c.written.one-index c.one-item.result (omega arith) c.one-item.is)) c.written.invariant.same;
      short = still_short c.add_body.new.table c.written.table first c.in_ok-add_body.ensures;
    }
