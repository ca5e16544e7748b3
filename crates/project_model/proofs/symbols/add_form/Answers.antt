use Rattle.std.proofs.Common.{ap, ap₂, map, sym, ◌∙◌}
use Rattle.std.specs.List.{flat_map}
use Rattle.std.proofs.lemmas.Result.{on_ok_weaker}
use Rattle.expr_leaves.specs.Leaves.{seen}
use Rattle.name_resolution.specs.Plain.{form_of, piece_of}
use Rattle.project_meaning.specs.Trees.{sides}
use Rattle.project_model.specs.Gathered.{gathered}
use Rattle.name_resolution.specs.Symbols.{symbol_beside, symbols_at}
use Rattle.project_model.proofs.symbols.add_form.Goals as goal

pub returns-in_ok-leaves-in-Pairs : goal.returns-in_ok-leaves-in-Pairs
returns-in_ok-leaves-in-Pairs c =
    let names = c.args.names.now in
    let of = symbol_beside names in
    on_ok_weaker c.add_symbols.result
    (λ is. is ∙ ap (gathered c.args.table.now)
    (ap (λ z. flat_map of (seen z)) c.deref-in-Pairs.ensures.value ∙ ap (flat_map of) c.in_ok-leaves-in-Pairs.ensures
    ∙ ap (λ p. symbols_at names (form_of p)) (sym c.in-Pairs.is)))
    c.add_symbols.ensures

pub returns-in-Sides : goal.returns-in-Sides
returns-in-Sides c =
    let names = c.args.names.now in
    on_ok_weaker c.add_sides.result
    (λ is. is ∙ ap (gathered c.args.table.now)
    (ap₂ (λ u l. symbols_at names (sides (map piece_of u) (map piece_of l))) c.deref.ensures.value c.deref-in-Sides.ensures.value
    ∙ ap (λ p. symbols_at names (form_of p)) (sym c.in-Sides.is)))
    c.add_sides.ensures
