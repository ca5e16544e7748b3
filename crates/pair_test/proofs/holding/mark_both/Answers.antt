use Rattle.std.proofs.Common.{◌≡◌, ◌⊎◌, arith, length, subst}
use Rattle.pair_test.specs.Marks.{AreMarks, IsMarked}
use Rattle.pair_test.proofs.Places.{BothAt, marked_all, marked_more, marked_start}
use Rattle.pair_test.proofs.holding.mark_both.Goals as goal

pub places-init : goal.places-init
places-init c = marked_start (BothAt c.args.before.now c.args.behind.now c.args.marks.now.items c.args.count) c.args.marks.now.items

pub places-preserved : goal.places-preserved
places-preserved c =
    let long : length c.args.marks.now.items ≡ c.args.count = omega (arith, c.args.marks.now.ok, c.requires.count) in
    marked_more c.args.before.now c.args.behind.now c.args.marks.now.items c.args.count c.places.place c.places.marks.items c.mark_where.new.marks.items _ _ c.places-test.true c.requires.before c.requires.behind long c.places.invariant
    c.mark_where.ensures

pub returns : goal.returns
returns c =
    let old = c.args.marks.now.items in
    let long : length old ≡ c.args.count = omega (arith, c.args.marks.now.ok, c.requires.count) in
    let H = BothAt c.args.before.now c.args.behind.now old c.args.count in
    subst (λ n. AreMarks (λ k. IsMarked old k ⊎ H k) n c.places.marks.items) long (marked_all H old c.places.place c.places.marks.items (omega (arith, long, c.places-test.false)) c.places.invariant)
