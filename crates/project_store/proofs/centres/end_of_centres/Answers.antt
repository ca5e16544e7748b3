use Rattle.std.proofs.Common.{◌≡◌, ◌+◌, [], arith, get_or, refl, subst, sym}
use Rattle.std.proofs.lemmas.Option.{slice_get-get_or, slice_get_read, slice_get_within}
use Rattle.project_store.specs.Centres.{body_centres}
use Rattle.project_definitions.specs.Plain.{body_of}
use Rattle.project_definitions.specs.declared.definition.Definition.{Definition}
use Rattle.project_store.proofs.Trying.{NoneFrom, ends_before, ends_here}
use Rattle.project_store.proofs.centres.end_of_centres.Goals as goal
use Rattle.project_store.proofs.centres.end_of_centres.Goals.{then-branch, else-branch}

pub order-preserved : goal.order-preserved
order-preserved c = elim c.if-branch.branch [
  | then-branch w ↦ record {
    within = let is = w.end-is in omega (arith, is);
    behind = subst (λ end. NoneFrom c.args.definitions.now c.args.order.now end (c.order.index + 1)) (sym w.end-is) (ends_here c.args.definitions.now c.args.order.now c.order.index);
  }
  | else-branch w ↦
      (let place = get_or c.args.order.now c.order.index 0 in
      let below = c.requires c.order.index 0 c.order-test.true in
      let at = slice_get-get_or c.args.order.now c.order.index 0 c.order-test.true in
      let stands = slice_get_read c.args.definitions.now _ place c.index-definitions-place.result refl below c.index-definitions-place.is in
      record {
        within = let is = w.end-is in let before = c.order.invariant.within in omega (arith, is, before);
        behind = subst (λ end. NoneFrom c.args.definitions.now c.args.order.now end (c.order.index + 1)) (sym w.end-is)
            (ends_before c.args.definitions.now c.args.order.now c.order.end c.order.index place c.index-definitions-place.result at stands (subst (λ (x : Definition). body_centres (body_of x.body) ≡ []) (sym c.index-definitions-place.is) (rw w.if-branch.false at c.in_ok-has_centre.ensures)) c.order.invariant.behind);
      })
]

pub returns-clause-behind : goal.returns-clause-behind
returns-clause-behind c i place d past at = c.order.invariant.behind i place d past (omega (arith, slice_get_within c.args.order.now i place at, c.order-test.false)) at
