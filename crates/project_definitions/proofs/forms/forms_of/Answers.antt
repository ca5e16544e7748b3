use Rattle.std.proofs.Common.{◌<◌, length, get_or, refl, sym, ap, ◌∙◌, arith, rules}
use Rattle.std.proofs.lemmas.List.{length-map, length-set}
use Rattle.std.proofs.lemmas.List.Elements.{Contains-get_or}
use Rattle.std.proofs.lemmas.Option.{slice_get_read}
use Rattle.expr_kinds.specs.Atoms.{leaves_at, weights_at}
use Rattle.expr_kinds.specs.Forms.{capped}
use Rattle.grammar_weights.specs.Weights.{is_same_symbol}
use Rattle.project_definitions.specs.Bodies.{kind_of_body, weight_of_body}
use Rattle.project_definitions.specs.Plain.{body_of}
use Rattle.project_definitions.specs.Referring.{body_places}
use Rattle.project_definitions.specs.declared.definition.Definition.{Definition}
use Rattle.project_definitions.proofs.Forming.{forms_are, told_more}
use Rattle.project_definitions.proofs.forms.forms_of.Goals as goal

pub bounds-definitions-place : goal.bounds-definitions-place
bounds-definitions-place c =
    let definitions = c.args.definitions.now in
    let place = get_or c.args.order.now c.places.place-index 0 in
    let within = (c.requires.order.places place).0 (Contains-get_or c.args.order.now c.places.place-index 0 c.places-test.true) in
    let size = length-map definitions (λ (d : Definition). body_places (length definitions) (body_of d.body)) in
    omega (arith, within, size)

pub offset_bounds-definitions-place : goal.offset_bounds-definitions-place
offset_bounds-definitions-place c =
    let definitions = c.args.definitions.now in
    let place = get_or c.args.order.now c.places.place-index 0 in
    let within = (c.requires.order.places place).0 (Contains-get_or c.args.order.now c.places.place-index 0 c.places-test.true) in
    let size = length-map definitions (λ (d : Definition). body_places (length definitions) (body_of d.body)) in
    let below : place < length definitions = omega (arith, within, size) in
    search rules

pub index_mut-requires : goal.index_mut-requires
index_mut-requires c =
    let definitions = c.args.definitions.now in
    let place = get_or c.args.order.now c.places.place-index 0 in
    let within = (c.requires.order.places place).0 (Contains-get_or c.args.order.now c.places.place-index 0 c.places-test.true) in
    let size = length-map definitions (λ (d : Definition). body_places (length definitions) (body_of d.body)) in
    omega (arith, within, size, c.places.invariant.count, c.places.forms.ok.0)

pub places-preserved : goal.places-preserved
places-preserved c =
    let definitions = c.args.definitions.now in
    let place = get_or c.args.order.now c.places.place-index 0 in
    let within = (c.requires.order.places place).0 (Contains-get_or c.args.order.now c.places.place-index 0 c.places-test.true) in
    let size = length-map definitions (λ (d : Definition). body_places (length definitions) (body_of d.body)) in
    let below : place < length definitions = omega (arith, within, size) in
    let d = c.index-definitions-place.result in
    let at = slice_get_read definitions (length definitions) place d refl below c.index-definitions-place.is in
    let kind = rw c.deref.ensures.value at c.in_ok-form.ensures.kind in
    let weight = rw c.deref.ensures.value at c.in_ok-form.ensures.weight in
    record {
      count = length-set c.places.forms.items place c.in_ok-form.form ∙ c.places.invariant.count;
      told = λ said table are.
          told_more said table definitions are c.args.order.now c.requires.order c.requires.acyclic c.places.forms.items c.places.invariant.count c.places.place-index c.places-test.true d at c.in_ok-form.form
          (kind ∙ ap (λ (x : Definition). kind_of_body (leaves_at c.places.forms.items) (body_of x.body)) (sym c.index-definitions-place.is))
          (weight ∙ ap (λ (x : Definition). capped (weight_of_body (weights_at c.places.forms.items) is_same_symbol (body_of x.body))) (sym c.index-definitions-place.is))
          (c.places.invariant.told said table are);
    }

pub returns-clause-forms : goal.returns-clause-forms
returns-clause-forms c = λ said table are.
    forms_are said table c.args.definitions.now are c.args.order.now c.requires.order c.requires.acyclic c.places.forms.items c.places.place-index c.places-test.false (c.places.invariant.told said table are)
