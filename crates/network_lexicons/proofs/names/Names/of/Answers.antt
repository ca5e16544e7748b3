use Rattle.std.proofs.Common.{◌≡◌, ℕ, List, Some, map, sym, ap, ◌∙◌}
use Rattle.std.specs.List.{slice_get}
use Rattle.std.proofs.lemmas.Option.{slice_get-get_or}
use Rattle.fsm_base.specs.Symbols.{with_text}
use Rattle.network_lexicons.specs.Plain.{lexicon_of, names_of}
use Rattle.network_lexicons.proofs.Placed.{name_at, names_more}
use Rattle.network_lexicons.proofs.names.Names.of.Goals as goal

pub lexicons-preserved : goal.lexicons-preserved
lexicons-preserved c =
    let all = c.args.lexicons.now in
    let i = c.lexicons.lexicon-index in
    let lexicon = c.lexicon-item.result in
    let at : slice_get all i ≡ Some lexicon = slice_get-get_or all i lexicon c.lexicons-test.true ∙ ap Some (sym c.lexicon-item.is) in
    names_more (names_of (map lexicon_of all)) c.requires i lexicon.name c.lexicons.texts c.add.new.self (name_at all i lexicon at)
    (c.in_ok-add.ensures.table ∙ ap (λ (name : List ℕ). with_text name c.lexicons.texts) c.as_str.ensures) c.lexicons.invariant
