use Rattle.std.proofs.Common.{◌+◌, ◌∙◌, List, Bool, ap, arith, length, subst, sym, take}
use Rattle.touched_names.specs.Places.{IsMarked}
use Rattle.project_versions.proofs.Serving.{AreMarkedIn, all_marked, more_marked, written_back}
use Rattle.project_versions.proofs.keeping.marks_at.Goals as goal

pub places-preserved : goal.places-preserved
places-preserved c =
    let count = c.args.count in
    let places = c.args.places.now in
    let old = c.places.marks.items in
    let new = c.mark.new.marks in
    let value = c.deref_mut.ensures.value in
    let size = ap (λ (ms : List Bool). length ms) value in
    let same = c.mark.ensures.count ∙ size in
    let back = written_back old new c.places.marks.len same c.places.marks.ok.0 in
    let so_far = c.places.invariant.count in
    let more = more_marked count places c.places.place-index old new c.places-test.true
    (λ below. c.mark.ensures.marked (omega (arith, below, so_far, size)))
    (λ other h. c.mark.ensures.stay other (subst (λ (ms : List Bool). IsMarked ms other) (sym value) h)) c.places.invariant.marks in
    record {
      count = ap (λ (ms : List Bool). length ms) back ∙ same ∙ so_far;
      marks = subst (λ (ms : List Bool). AreMarkedIn count (take (c.places.place-index + 1) places) ms) (sym back) more;
    }

pub returns-clause-marks : goal.returns-clause-marks
returns-clause-marks c = all_marked c.args.count c.args.places.now c.places.place-index c.places.marks.items c.places-test.false c.places.invariant.marks
