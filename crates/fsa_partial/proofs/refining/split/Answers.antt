use Rattle.std.proofs.Common.{◌≡◌, ◌+◌, ◌++◌, [], ◌∷◌, take, ap, sym, subst, arith, ◌∙◌}
use Rattle.std.specs.List.{Contains}
use Rattle.std.proofs.lemmas.List.{take_all, take_more}
use Rattle.fsa_partial.specs.Splitting.{IsSplit}
use Rattle.fsa_partial.proofs.Splits.{split_once, split_more}
use Rattle.fsa_partial.proofs.refining.split.Goals as goal

pub split_by-requires-clause-below : goal.split_by-requires-clause-below
split_by-requires-clause-below c = λ a h.
    let v = c.arcs-item.result in
    let r = c.requires.below v (c.loop-arcs.arcs-index, c.loop-arcs-test.true, sym c.arcs-item.is) a (subst (λ xs. Contains xs a) c.deref.ensures.value h) in
    let n = c.loop-arcs.invariant.count in
    let one = r.0 in
    let two = r.1 in
    (omega arith, omega arith)

pub loop-arcs-preserved : goal.loop-arcs-preserved
loop-arcs-preserved c =
    let groups = c.args.groups.now in
    let i = c.loop-arcs.arcs-index in
    let v = c.arcs-item.result in
    let front : take (i + 1) groups ≡ take i groups ++ v ∷ [] = take_more groups i v c.loop-arcs-test.true ∙ ap (λ z. take i groups ++ z ∷ []) (sym c.arcs-item.is) in
    let now = c.loop-arcs.classes.items in
    let new = c.split_by.new.classes.items in
    let r = rw c.deref.ensures.value at c.in_ok-next.ensures.numbers in
    record {
      count = r.2.count ∙ c.loop-arcs.invariant.count;
      split = subst (λ gs. IsSplit c.args.targets.now gs c.args.start.now new) (sym front)
          (split_more c.args.targets.now (take i groups) c.args.start.now now new v c.loop-arcs.invariant.split (split_once now c.args.targets.now v.items r.0 new r.1 r.2));
    }

pub returns-clause-split : goal.returns-clause-split
returns-clause-split c =
    subst (λ gs. IsSplit c.args.targets.now gs c.args.start.now c.loop-arcs.classes.items) (take_all c.loop-arcs.arcs-index c.args.groups.now c.loop-arcs-test.false) c.loop-arcs.invariant.split
