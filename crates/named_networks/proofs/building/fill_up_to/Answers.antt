use Rattle.std.proofs.Common.{subst}
use Rattle.name_order.specs.Orders.{IsOrder}
use Rattle.project_definitions.specs.Referring.{references_of}
use Rattle.project_store.specs.Building.{IsThere}
use Rattle.project_store.proofs.Networks.{built_more, never_past, none_so_far, parts_there, place_within}
use Rattle.named_networks.proofs.building.fill_up_to.Goals as goal

pub order-init : goal.order-init
order-init c = none_so_far c.args.project.now c.order-order.result.now c.args.place c.args.built.now.items c.requires.built

pub fill-requires-clause-place : goal.fill-requires-clause-place
fill-requires-clause-place c =
    let ordered = subst (λ ds. IsOrder (references_of ds) c.order-order.result.now) c.plan-plan.ensures.definitions c.order-order.ensures in
    place_within c.args.project.now c.order-order.result.now ordered c.args.place c.args.built.now.items c.order.next-index c.order-test.true c.order.built.items c.order.invariant

pub fill-requires-clause-built : goal.fill-requires-clause-built
fill-requires-clause-built c = c.order.invariant.are

pub fill-requires-clause-parts : goal.fill-requires-clause-parts
fill-requires-clause-parts c =
    let ordered = subst (λ ds. IsOrder (references_of ds) c.order-order.result.now) c.plan-plan.ensures.definitions c.order-order.ensures in
    parts_there c.args.project.now c.order-order.result.now ordered c.args.place c.args.built.now.items c.order.next-index c.order-test.true c.order.built.items c.order.invariant

pub returns-then-next-place : goal.returns-then-next-place
returns-then-next-place c = record {
  are = c.in_ok-fill.ensures.are;
  there = subst (IsThere c.fill.new.built.items) c.if-next-place.true c.in_ok-fill.ensures.there;
  stay = λ other n at. c.in_ok-fill.ensures.stay other n (c.order.invariant.stay other n at);
}

pub order-preserved : goal.order-preserved
order-preserved c =
    let ordered = subst (λ ds. IsOrder (references_of ds) c.order-order.result.now) c.plan-plan.ensures.definitions c.order-order.ensures in
    built_more c.args.project.now c.order-order.result.now ordered c.args.place c.args.built.now.items c.order.next-index c.order-test.true c.order.built.items c.order.invariant c.fill.new.built.items c.in_ok-fill.ensures c.if-next-place.false

pub unreachable-requires : goal.unreachable-requires
unreachable-requires c =
    let ordered = subst (λ ds. IsOrder (references_of ds) c.order-order.result.now) c.plan-plan.ensures.definitions c.order-order.ensures in
    never_past c.args.project.now c.order-order.result.now ordered c.args.place c.args.built.now.items c.order.next-index c.order.built.items c.requires.place c.order-test.false c.order.invariant
