use Rattle.std.proofs.Common.{◌+◌, ◌∙◌, ap, arith, drop, map}
use Rattle.std.specs.List.{flat_map}
use Rattle.word_relations.proofs.Behind.{left_behind}
use Rattle.name_resolution.specs.Plain.{form_of, lexicon_of}
use Rattle.name_resolution.proofs.ResolvedLexicons.{one_lexicon}
use Rattle.project_meaning.specs.Leaves.{forms_in}
use Rattle.project_model.specs.Gathered.{gathered}
use Rattle.name_resolution.specs.Symbols.{symbols_at}
use Rattle.project_model.proofs.Gathering.{gather_more, still_short}
use Rattle.project_model.proofs.symbols.add_lexicons.Goals as goal

pub lexicons-preserved : goal.lexicons-preserved
lexicons-preserved c =
    let at = symbols_at c.args.names.now in
    let l = c.lexicon-item.result in
    let behind = drop (c.lexicons.lexicon-index + 1) c.args.lexicons.now in
    let first = flat_map at (map (λ e. form_of e.form) l.entries.items) in
    let rest = flat_map at (forms_in (map lexicon_of behind)) in
    let added = c.in_ok-add_entries.ensures ∙ ap (λ z. gathered c.lexicons.table (flat_map at (map (λ e. form_of e.form) z))) c.deref.ensures.value in
    record {
      same =
          gather_more c.lexicons.table c.add_entries.new.table first rest _ _ added
          (ap (λ z. flat_map at (forms_in (map lexicon_of z))) (left_behind c.args.lexicons.now c.lexicons.lexicon-index l (omega arith) c.lexicon-item.is) ∙ one_lexicon at l behind) c.lexicons.invariant.same;
      short = still_short c.add_entries.new.table c.lexicons.table first added;
    }
