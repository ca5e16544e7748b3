use Rattle.std.proofs.Common.{◌+◌, ap, arith, drop, map}
use Rattle.std.specs.List.{flat_map}
use Rattle.word_relations.proofs.Behind.{left_behind}
use Rattle.name_resolution.specs.Plain.{form_of}
use Rattle.name_resolution.specs.Symbols.{symbols_at}
use Rattle.project_model.proofs.Gathering.{gather_more, still_short}
use Rattle.project_model.proofs.symbols.add_entries.Goals as goal

pub entries-preserved : goal.entries-preserved
entries-preserved c =
    let at = symbols_at c.args.names.now in
    let first = at (form_of c.entry-item.result.form) in
    let rest = flat_map at (map (λ e. form_of e.form) (drop (c.entries.entry-index + 1) c.args.entries.now)) in
    record {
      same = gather_more c.entries.table c.add_form.new.table first rest _ _ c.in_ok-add_form.ensures (ap (λ z. flat_map at (map (λ e. form_of e.form) z)) (left_behind c.args.entries.now c.entries.entry-index c.entry-item.result (omega arith) c.entry-item.is)) c.entries.invariant.same;
      short = still_short c.add_form.new.table c.entries.table first c.in_ok-add_form.ensures;
    }
