use Rattle.std.proofs.Common.{◌≡◌, ◌<◌, ◌++◌, IsPermutation, get_or, length, take, subst, sym, arith}
use Rattle.std.specs.List.{flat_map}
use Rattle.std.proofs.lemmas.List.{take_more, length-take-le}
use Rattle.std.proofs.lemmas.Result.{IfOk-weaker}
use Rattle.fsa_subset.specs.Classes.{IsByClass, at_class}
use Rattle.fsa_subset.proofs.Classing.{classes_none, classes_more, classes_all}
use Rattle.fsa_subset.proofs.classes.rows_by_class.Goals as goal

pub loop-class-init : goal.loop-class-init
loop-class-init c = classes_none c.args.edges.now c.in_ok-kept.kept.items c.in_ok-kept.ensures

pub loop-class-preserved : goal.loop-class-preserved
loop-class-preserved c =
    let edges = c.args.edges.now in
    let firsts = c.args.firsts.now in
    let i = c.loop-class.class in
    let first = get_or firsts i 0 in
    let kept = c.loop-class.kept.items in
    let more = c.add_class.new.kept.items in
    let out = c.out.result.now in
    let inside : i < length firsts = c.loop-class-test.true in
    let long : length (take i firsts) ≡ i = length-take-le i firsts (omega arith) in
    subst (λ fs. IsByClass edges fs more) (sym (take_more firsts i 0 inside))
    (classes_more edges c.args.letters.now c.requires (take i firsts) first out c.out.ensures kept more
    (subst (λ n. more ≡ kept ++ flat_map (at_class n) out) (sym long) c.in_ok-add_class.ensures) c.loop-class.invariant)

pub returns : goal.returns
returns c =
    let edges = c.args.edges.now in
    let firsts = c.args.firsts.now in
    let kept = c.loop-class.kept.items in
    IfOk-weaker c.of.result (IsPermutation c.deref.result.now) (IsByClass edges firsts)
    (λ rows moved. classes_all edges firsts c.loop-class.class kept rows c.loop-class-test.false (subst (λ es. IsPermutation es rows) c.deref.ensures.value moved) c.loop-class.invariant) c.of.ensures
