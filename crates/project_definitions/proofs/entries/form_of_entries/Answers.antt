use Rattle.std.proofs.Common.{[], sym, subst, arith}
use Rattle.std.proofs.lemmas.List.{take_all}
use Rattle.project_definitions.proofs.Telling.{EntriesTell, EntryFits, EntryIsBuilt, entries_more, entry_weight, tells_none}
use Rattle.project_definitions.proofs.entries.form_of_entries.Goals as goal

pub entries-init : goal.entries-init
entries-init c =
    let names = c.args.names.now in
    subst (λ f. EntriesTell names [] f) (sym c.leaf-form.ensures) (tells_none (EntryFits names) (entry_weight names) (EntryIsBuilt names))

pub entries-preserved : goal.entries-preserved
entries-preserved c =
    entries_more c.args.names.now c.args.entries.now c.entries.entry-index c.entry-item.result c.entries.form c.form_of_entry.result c.beside-form.result (omega arith) c.entry-item.is c.beside-form.ensures
    (record { fits = c.form_of_entry.ensures.fits; weight = c.form_of_entry.ensures.weight; built = c.form_of_entry.ensures.built }) c.entries.invariant

pub returns : goal.returns
returns c =
    let all = subst (λ es. EntriesTell c.args.names.now es c.entries.form) (take_all c.entries.entry-index c.args.entries.now (omega arith)) c.entries.invariant in
    record { fits = all.fits; weight = all.weight; built = all.built }
