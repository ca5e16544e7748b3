use Rattle.std.proofs.Common.{◌<◌, ◌≤◌, ◌-◌, false, length, get_or, sym, ap, subst, arith, ◌∙◌}
use Rattle.std.proofs.lemmas.Option.{slice_get-get_or}
use Rattle.fsa_reduce.specs.Classes.{AreClasses}
use Rattle.fsa_reduce.proofs.Classing.{beside_more, beside_same, classing_all}
use Rattle.fsa_reduce.proofs.classes.classes_beside.Goals as goal

pub loop-alloc-preserved : goal.loop-alloc-preserved
loop-alloc-preserved c =
    let finals = c.args.finals.now in
    let classes = c.loop-alloc.classes.items in
    let state = length finals - 1 - c.len-in-loop-alloc.result in
    let counted = c.loop-alloc.classes.ok.0 in
    let test = rw c.len.ensures at c.loop-alloc-test.true in
    let there : length classes < length finals = omega arith in
    let inside : state < length finals = omega arith in
    beside_more finals c.args.rows.now c.loop-alloc.signatures c.number_of.new.table c.args.known.now classes c.push.new.self.items
    c.in_ok-signature.signature.items state c.in_ok-number_of.field-0 (get_or finals state false) c.out.result.now
    there (ap (λ n. length finals - 1 - n) (c.len-in-loop-alloc.ensures ∙ counted)) (slice_get-get_or finals state false inside) c.out.ensures
    c.in_ok-number_of.ensures.kept c.in_ok-number_of.ensures.number c.in_ok-push.ensures.items
    c.in_ok-signature.ensures c.loop-alloc.invariant

pub returns : goal.returns
returns c = λ same.
    let finals = c.args.finals.now in
    let classes = c.loop-alloc.classes.items in
    let counted = c.loop-alloc.classes.ok.0 in
    let test = rw c.len.ensures at c.loop-alloc-test.false in
    let whole : length finals ≤ length classes = omega arith in
    subst (AreClasses finals c.args.rows.now classes) (sym c.len-2.ensures)
    (classing_all finals c.args.rows.now c.loop-alloc.signatures classes whole c.requires (beside_same finals c.args.rows.now c.loop-alloc.signatures c.args.known.now classes same c.loop-alloc.invariant))
