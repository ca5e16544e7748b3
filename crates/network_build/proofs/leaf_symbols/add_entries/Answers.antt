use Rattle.std.proofs.Common.{◌≡◌, ◌+◌, ◌++◌, ◌∷◌, [], arith, subst, sym, take}
use Rattle.std.proofs.lemmas.List.{take_all, take_more}
use Rattle.network_build.specs.Networks.{form_leaves}
use Rattle.network_build.specs.Gathered.{AddsLeaves}
use Rattle.network_build.proofs.Gathering.{adds_more, adds_none, entries_leaves, entry_form, listed_joined, one_entry}
use Rattle.network_build.proofs.leaf_symbols.add_entries.Goals as goal

pub entries-init : goal.entries-init
entries-init c = adds_none c.args.symbols.now

pub entries-preserved : goal.entries-preserved
entries-preserved c =
    let entries = c.args.entries.now in
    let i = c.entries.entry-index in
    let entry = c.entry-item.result in
    adds_more entries_leaves (listed_joined form_leaves entry_form) c.args.symbols.now c.entries.symbols c.add_form.new.symbols entries i entry
    (subst (λ x. take (i + 1) entries ≡ take i entries ++ x ∷ []) (sym c.entry-item.is) (take_more entries i entry (omega arith)))
    (subst (AddsLeaves c.entries.symbols c.add_form.new.symbols) (one_entry entry) c.in_ok-add_form.ensures) c.entries.invariant

pub returns : goal.returns
returns c = subst (λ xs. AddsLeaves c.args.symbols.now c.entries.symbols (entries_leaves xs)) (take_all c.entries.entry-index c.args.entries.now (omega arith)) c.entries.invariant
