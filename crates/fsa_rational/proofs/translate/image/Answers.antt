use Rattle.std.proofs.Common.{ap, sym, ◌∙◌}
use Rattle.std.specs.List.{Contains}
use Rattle.fsa_rational.specs.Shapes.{ImageOf}
use Rattle.fsa_rational.proofs.Extended.{each_more, each_all}
use Rattle.fsa_rational.proofs.Walks.{same_elements}
use Rattle.fsa_rational.proofs.ImageLanguage.{image_language, image_letters}
use Rattle.fsa_rational.proofs.translate.image.Goals as goal

pub add_image-requires-clause-from : goal.add_image-requires-clause-from
add_image-requires-clause-from g c =
    let held : Contains c.edges-edge-items.result.now c.edge-item.result = (c.loop-edge.edge-index, c.loop-edge-test.true, sym c.edge-item.is) in
    let there = rw c.edges-edge-items.ensures.edges at held in
    rw (c.loop-edge.invariant.finals ∙ ap (λ m. m.finals) c.in_ok-m.ensures) (c.edges-edge-items.ensures.formed.within c.edge-item.result there).0

pub add_image-requires-clause-to : goal.add_image-requires-clause-to
add_image-requires-clause-to g c =
    let held : Contains c.edges-edge-items.result.now c.edge-item.result = (c.loop-edge.edge-index, c.loop-edge-test.true, sym c.edge-item.is) in
    let there = rw c.edges-edge-items.ensures.edges at held in
    rw (c.loop-edge.invariant.finals ∙ ap (λ m. m.finals) c.in_ok-m.ensures) (c.edges-edge-items.ensures.formed.within c.edge-item.result there).1

pub add_image-requires-clause-sorted : goal.add_image-requires-clause-sorted
add_image-requires-clause-sorted g c = rw c.deref.ensures.value c.sorted_rows-rows.ensures.sorted

pub loop-edge-preserved : goal.loop-edge-preserved
loop-edge-preserved g c =
    each_more (ImageOf c.sorted_rows-rows.result.items) c.edges-edge-items.result.now c.loop-edge.edge-index c.edge-item.result c.loop-edge-test.true c.edge-item.is
    c.in_ok-m.m c.loop-edge.m c.add_image.new.m c.loop-edge.invariant (rw c.deref.ensures.value at c.in_ok-add_image.ensures)

pub returns : goal.returns
returns g c =
    let a = c.args.a.now in
    let table = c.args.table.now in
    let rows = c.sorted_rows-rows.result.items in
    let same = same_elements table rows (rw c.in_ok-from_slice.ensures.items at c.sorted_rows-rows.ensures.permutation) in
    let whole = each_all (ImageOf rows) c.edges-edge-items.result.now c.loop-edge.edge-index c.in_ok-m.m c.loop-edge.m c.loop-edge-test.false c.loop-edge.invariant in
    let made = rw c.edges-edge-items.ensures.edges at whole in
    let none = ap (λ m. m.edges) c.in_ok-m.ensures in
    let finals = ap (λ m. m.finals) c.in_ok-m.ensures in
    record {
      letters = image_letters table rows same a c.in_ok-m.m c.loop-edge.m none finals made;
      language = image_language table rows same a c.in_ok-m.m c.loop-edge.m none finals made;
    }
