use Rattle.std.proofs.Common.{Some, ap, sym, ◌∙◌}
use Rattle.std.specs.List.{Contains}
use Rattle.fsa_rational.specs.Shapes.{PreimageOf}
use Rattle.fsa_rational.proofs.Extended.{each_more, each_all}
use Rattle.fsa_rational.proofs.Walks.{same_elements_then}
use Rattle.fsa_rational.proofs.PreimageLanguage.{preimage_language, preimage_letters}
use Rattle.fsa_rational.proofs.translate.preimage.Goals as goal

pub add_preimage-requires-clause-from : goal.add_preimage-requires-clause-from
add_preimage-requires-clause-from g c =
    let held : Contains c.edges-edge-items.result.now c.edge-item.result = (c.loop-edge.edge-index, c.loop-edge-test.true, sym c.edge-item.is) in
    let there = rw c.edges-edge-items.ensures.edges at held in
    rw (c.loop-edge.invariant.finals ∙ ap (λ m. m.finals) c.in_ok-m.ensures) (c.edges-edge-items.ensures.formed.within c.edge-item.result there).0

pub add_preimage-requires-clause-to : goal.add_preimage-requires-clause-to
add_preimage-requires-clause-to g c =
    let held : Contains c.edges-edge-items.result.now c.edge-item.result = (c.loop-edge.edge-index, c.loop-edge-test.true, sym c.edge-item.is) in
    let there = rw c.edges-edge-items.ensures.edges at held in
    rw (c.loop-edge.invariant.finals ∙ ap (λ m. m.finals) c.in_ok-m.ensures) (c.edges-edge-items.ensures.formed.within c.edge-item.result there).1

pub add_preimage-requires-clause-sorted : goal.add_preimage-requires-clause-sorted
add_preimage-requires-clause-sorted g c = rw c.deref.ensures.value c.sorted_rows-rows.ensures.sorted

pub loop-edge-preserved : goal.loop-edge-preserved
loop-edge-preserved g c =
    each_more (PreimageOf c.sorted_rows-rows.result.items) c.edges-edge-items.result.now c.loop-edge.edge-index c.edge-item.result c.loop-edge-test.true c.edge-item.is
    c.in_ok-m.m c.loop-edge.m c.add_preimage.new.m c.loop-edge.invariant (rw c.deref.ensures.value at c.in_ok-add_preimage.ensures)

pub returns : goal.returns
returns g c =
    let a = c.args.a.now in
    let table = c.args.table.now in
    let rows = c.sorted_rows-rows.result.items in
    let letters = c.in_ok-omitted_letters.field-0.items in
    let kept = same_elements_then (λ row. Contains table (row.1, Some row.0)) c.in_ok-kept_rows.field-0.items rows c.sorted_rows-rows.ensures.permutation c.in_ok-kept_rows.ensures in
    let whole = each_all (PreimageOf rows) c.edges-edge-items.result.now c.loop-edge.edge-index c.in_ok-m.m c.loop-edge.m c.loop-edge-test.false c.loop-edge.invariant in
    let made = rw c.edges-edge-items.ensures.edges at whole in
    let none = ap (λ m. m.edges) c.in_ok-m.ensures in
    let finals = ap (λ m. m.finals) c.in_ok-m.ensures in
    let looped = rw c.deref-2.ensures.value at c.in_ok-add_loops.ensures in
    record {
      letters = preimage_letters table rows kept letters c.in_ok-omitted_letters.ensures a c.edges-edge-items.ensures.formed c.in_ok-m.m c.loop-edge.m c.add_loops.new.m none finals made looped;
      language = preimage_language table rows kept letters c.in_ok-omitted_letters.ensures a c.edges-edge-items.ensures.formed c.in_ok-m.m c.loop-edge.m c.add_loops.new.m none finals made looped;
    }
