use Rattle.std.proofs.Common.{length, subst}
use Rattle.name_order.specs.Orders.{IsOrder}
use Rattle.project_definitions.specs.Referring.{references_of}
use Rattle.project_store.proofs.Networks.{built_more, none_so_far, parts_there, place_within}
use Rattle.project_versions.proofs.Readying.{all_there, not_past}
use Rattle.project_versions.proofs.networks.all_built.Goals as goal

pub order-init : goal.order-init
order-init c = none_so_far c.args.project.now c.order-order.result.now (length c.args.project.now.definitions) c.args.built.items c.requires

pub fill-requires-clause-place : goal.fill-requires-clause-place
fill-requires-clause-place c =
    let ordered = subst (λ ds. IsOrder (references_of ds) c.order-order.result.now) c.plan-plan.ensures.definitions c.order-order.ensures in
    place_within c.args.project.now c.order-order.result.now ordered (length c.args.project.now.definitions) c.args.built.items c.order.next-index c.order-test.true c.order.built.items c.order.invariant

pub fill-requires-clause-parts : goal.fill-requires-clause-parts
fill-requires-clause-parts c =
    let ordered = subst (λ ds. IsOrder (references_of ds) c.order-order.result.now) c.plan-plan.ensures.definitions c.order-order.ensures in
    parts_there c.args.project.now c.order-order.result.now ordered (length c.args.project.now.definitions) c.args.built.items c.order.next-index c.order-test.true c.order.built.items c.order.invariant

pub order-preserved : goal.order-preserved
order-preserved c =
    let ordered = subst (λ ds. IsOrder (references_of ds) c.order-order.result.now) c.plan-plan.ensures.definitions c.order-order.ensures in
    let wanted = length c.args.project.now.definitions in
    built_more c.args.project.now c.order-order.result.now ordered wanted c.args.built.items c.order.next-index c.order-test.true c.order.built.items c.order.invariant c.fill.new.built.items c.in_ok-fill.ensures
    (not_past c.args.project.now c.order-order.result.now ordered c.args.built.items c.order.next-index c.order-test.true c.order.built.items c.order.invariant)

pub returns-clause-all : goal.returns-clause-all
returns-clause-all c =
    let ordered = subst (λ ds. IsOrder (references_of ds) c.order-order.result.now) c.plan-plan.ensures.definitions c.order-order.ensures in
    all_there c.args.project.now c.order-order.result.now ordered (length c.args.project.now.definitions) c.args.built.items c.order.next-index c.order.built.items c.order-test.false c.order.invariant

pub returns-clause-stay : goal.returns-clause-stay
returns-clause-stay c = c.order.invariant.stay
