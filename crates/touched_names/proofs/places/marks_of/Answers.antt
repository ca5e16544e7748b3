use Rattle.std.proofs.Common.{◌<◌, false, length, get_or, refl, sym, ap, ◌∙◌, arith, rules}
use Rattle.std.proofs.lemmas.List.{length-map, length-set}
use Rattle.std.proofs.lemmas.Option.{slice_get-get_or, slice_get_read}
use Rattle.project_definitions.specs.Plain.{body_of}
use Rattle.project_definitions.specs.Referring.{body_places, references_of}
use Rattle.project_definitions.specs.declared.definition.Definition.{Definition}
use Rattle.touched_names.proofs.Marking.{all_right, decided, place_within, refers_at, right_more}
use Rattle.touched_names.proofs.places.marks_of.Goals as goal

pub bounds-itself-place : goal.bounds-itself-place
bounds-itself-place c =
    let below = place_within c.args.definitions.now c.args.order.now c.requires.order c.order.place-index c.order-test.true in
    omega (arith, below, c.requires.marks)

pub bounds-definitions-place : goal.bounds-definitions-place
bounds-definitions-place c = place_within c.args.definitions.now c.args.order.now c.requires.order c.order.place-index c.order-test.true

pub offset_bounds-definitions-place : goal.offset_bounds-definitions-place
offset_bounds-definitions-place c =
    let below : get_or c.args.order.now c.order.place-index 0 < length c.args.definitions.now = place_within c.args.definitions.now c.args.order.now c.requires.order c.order.place-index c.order-test.true in
    search rules

pub index_mut-requires : goal.index_mut-requires
index_mut-requires c =
    let below = place_within c.args.definitions.now c.args.order.now c.requires.order c.order.place-index c.order-test.true in
    omega (arith, below, c.order.invariant.many, c.order.marks.ok.0)

pub order-preserved : goal.order-preserved
order-preserved c =
    let definitions = c.args.definitions.now in
    let order = c.args.order.now in
    let i = c.order.place-index in
    let place = get_or order i 0 in
    let below : place < length definitions = place_within definitions order c.requires.order i c.order-test.true in
    let d = c.index-definitions-place.result in
    let at = slice_get_read definitions (length definitions) place d refl below c.index-definitions-place.is in
    let own_below : place < length c.args.itself.now = omega (arith, below, c.requires.marks) in
    let own_at = slice_get-get_or c.args.itself.now place false own_below in
    let marks = c.order.marks.items in
    let mark = c.in_ok-touched.touched in
    let told = rw c.deref.ensures.value at c.in_ok-touched.ensures in
    let same = ap (λ n. body_places n (body_of d.body)) (sym c.order.invariant.many) in
    let decides = decided c.args.itself.now marks place (get_or c.args.itself.now place false) mark (body_places (length definitions) (body_of d.body)) (body_places (length marks) (body_of d.body)) own_at same told in
    record {
      many = length-set marks place mark ∙ c.order.invariant.many;
      right = right_more (references_of definitions) c.args.itself.now order c.requires.order i place (slice_get-get_or order i 0 c.order-test.true) (body_places (length definitions) (body_of d.body))
          (refers_at definitions place d at) marks c.order.invariant.right mark decides (omega (arith, below, c.order.invariant.many));
    }

pub returns : goal.returns
returns c =
    let size = length-map c.args.definitions.now (λ (d : Definition). body_places (length c.args.definitions.now) (body_of d.body)) in
    all_right (references_of c.args.definitions.now) c.args.itself.now c.args.order.now c.requires.order c.order.marks.items (c.order.invariant.many ∙ sym size) (c.requires.marks ∙ sym size)
    (λ k place less at. c.order.invariant.right k place (omega (arith, less, c.order-test.false)) at)
