use Rattle.std.proofs.Common.{◌≡◌, List, Option, Some, slice_get, subst, sym}
use Rattle.network_algebra.specs.declared.network.Network.{Network}
use Rattle.name_order.specs.Orders.{IsOrder}
use Rattle.project_definitions.specs.Referring.{references_of}
use Rattle.project_store.proofs.Networks.{built_here, built_more, like_if_built, never_past, none_so_far, parts_there, place_within}
use Rattle.project_store.specs.Building.{IsThere}
use Rattle.project_store.proofs.building.network_at.Goals as goal

pub order-init : goal.order-init
order-init c = none_so_far c.args.project.now c.order-order.result.now c.args.place c.args.built.items c.requires.centres

pub fill-requires-clause-place : goal.fill-requires-clause-place
fill-requires-clause-place c =
    let ordered = subst (λ ds. IsOrder (references_of ds) c.order-order.result.now) c.plan-plan.ensures.definitions c.order-order.ensures in
    place_within c.args.project.now c.order-order.result.now ordered c.args.place c.args.built.items c.order.next-index c.order-test.true c.order.built.items c.order.invariant

pub fill-requires-clause-parts : goal.fill-requires-clause-parts
fill-requires-clause-parts c =
    let ordered = subst (λ ds. IsOrder (references_of ds) c.order-order.result.now) c.plan-plan.ensures.definitions c.order-order.ensures in
    parts_there c.args.project.now c.order-order.result.now ordered c.args.place c.args.built.items c.order.next-index c.order-test.true c.order.built.items c.order.invariant

pub taken-requires : goal.taken-requires
taken-requires c =
    subst (λ (nets : List (Option Network)). IsThere nets c.args.place) (sym c.deref_mut.ensures.value)
    (subst (IsThere c.fill.new.built.items) c.if-next-place.true c.in_ok-fill.ensures.there)

pub returns-then-next-place : goal.returns-then-next-place
returns-then-next-place c =
    let ordered = subst (λ ds. IsOrder (references_of ds) c.order-order.result.now) c.plan-plan.ensures.definitions c.order-order.ensures in
    let good =
    built_here c.args.project.now c.order-order.result.now ordered c.args.place c.args.built.items c.order.next-index c.order-test.true c.order.built.items c.order.invariant c.fill.new.built.items c.taken.result c.in_ok-fill.ensures c.if-next-place.true
    (subst (λ (nets : List (Option Network)). slice_get nets c.args.place ≡ Some (Some c.taken.result)) c.deref_mut.ensures.value c.taken.ensures) in
    like_if_built c.args.project.now c.args.place c.taken.result good c.into_network.result c.into_network.ensures

pub order-preserved : goal.order-preserved
order-preserved c =
    let ordered = subst (λ ds. IsOrder (references_of ds) c.order-order.result.now) c.plan-plan.ensures.definitions c.order-order.ensures in
    built_more c.args.project.now c.order-order.result.now ordered c.args.place c.args.built.items c.order.next-index c.order-test.true c.order.built.items c.order.invariant c.fill.new.built.items c.in_ok-fill.ensures c.if-next-place.false

pub unreachable-requires : goal.unreachable-requires
unreachable-requires c =
    let ordered = subst (λ ds. IsOrder (references_of ds) c.order-order.result.now) c.plan-plan.ensures.definitions c.order-order.ensures in
    never_past c.args.project.now c.order-order.result.now ordered c.args.place c.args.built.items c.order.next-index c.order.built.items c.requires.place c.order-test.false c.order.invariant
