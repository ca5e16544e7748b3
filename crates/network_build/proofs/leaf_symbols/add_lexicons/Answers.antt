use Rattle.std.proofs.Common.{◌≡◌, ◌+◌, ◌++◌, ◌∷◌, ◌∙◌, [], ap, arith, subst, sym, take}
use Rattle.std.proofs.lemmas.List.{take_all, take_more}
use Rattle.network_build.specs.Gathered.{AddsLeaves}
use Rattle.network_build.proofs.Gathering.{adds_more, adds_none, entries_leaves, lexicons_joined, lexicons_leaves, one_lexicon}
use Rattle.network_build.proofs.leaf_symbols.add_lexicons.Goals as goal

pub lexicons-init : goal.lexicons-init
lexicons-init c = adds_none c.args.symbols.now

pub lexicons-preserved : goal.lexicons-preserved
lexicons-preserved c =
    let lexicons = c.args.lexicons.now in
    let i = c.lexicons.lexicon-index in
    let lexicon = c.lexicon-item.result in
    adds_more lexicons_leaves lexicons_joined c.args.symbols.now c.lexicons.symbols c.add_entries.new.symbols lexicons i lexicon
    (subst (λ x. take (i + 1) lexicons ≡ take i lexicons ++ x ∷ []) (sym c.lexicon-item.is) (take_more lexicons i lexicon (omega arith)))
    (subst (AddsLeaves c.lexicons.symbols c.add_entries.new.symbols) (ap entries_leaves c.deref.ensures.value ∙ one_lexicon lexicon) c.in_ok-add_entries.ensures) c.lexicons.invariant

pub returns : goal.returns
returns c = subst (λ xs. AddsLeaves c.args.symbols.now c.lexicons.symbols (lexicons_leaves xs)) (take_all c.lexicons.lexicon-index c.args.lexicons.now (omega arith)) c.lexicons.invariant
