use Rattle.std.proofs.Common.{ap}
use Rattle.name_resolution.specs.Plain.{form_of}
use Rattle.body_equality.proofs.LexiconTogether.{upper_differs, upper_same}
use Rattle.body_equality.proofs.lexicons.same_form.Goals as goal

pub returns-then-same_side : goal.returns-then-same_side
returns-then-same_side c =
    let upper = rw (c.deref.ensures.value, c.deref-in-Sides-Sides.ensures.value) at c.same_side.ensures in
    let lower = rw (c.deref-then-same_side.ensures.value, c.deref-then-same_side-2.ensures.value) at c.same_side-then-same_side.ensures in
    upper_same c.args.numbers.now c.args.other.now c.args.form.now c.in-Sides-Sides.other_upper.items c.in-Sides-Sides.other_lower.items c.in-Sides-Sides.upper.items c.in-Sides-Sides.lower.items
    (ap form_of c.in-Sides-Sides.is-0) (ap form_of c.in-Sides-Sides.is-1) (upper.0 c.if-same_side.true) c.same_side-then-same_side.result lower

pub returns-else-same_side : goal.returns-else-same_side
returns-else-same_side c =
    let upper = rw (c.deref.ensures.value, c.deref-in-Sides-Sides.ensures.value) at c.same_side.ensures in
    upper_differs c.args.numbers.now c.args.other.now c.args.form.now c.in-Sides-Sides.other_upper.items c.in-Sides-Sides.other_lower.items c.in-Sides-Sides.upper.items c.in-Sides-Sides.lower.items
    (ap form_of c.in-Sides-Sides.is-0) (ap form_of c.in-Sides-Sides.is-1) c.same_side.result c.if-same_side.false upper
