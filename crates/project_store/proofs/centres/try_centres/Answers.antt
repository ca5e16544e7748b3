use Rattle.std.proofs.Common.{◌≡◌, ◌<◌, ◌+◌, ◌∙◌, All, Bool, false, List, Option, ap, arith, get_or, length, refl, slice_get, subst, sym, take}
use Rattle.std.proofs.Math.ListN.{replicate}
use Rattle.network_algebra.specs.declared.network.Network.{Network}
use Rattle.name_order.specs.Orders.{IsOrder}
use Rattle.project_definitions.specs.Referring.{references_of}
use Rattle.project_definitions.specs.declared.definition.Definition.{Definition}
use Rattle.project_store.specs.Centres.{AreFree, IsOutcome, with_empty, with_network}
use Rattle.project_store.proofs.Trying.{TriedSoFar, all_within, front_more, here_within, tried_front, tried_none}
use Rattle.project_store.proofs.centres.try_centres.Goals as goal

pub end_of_centres-requires : goal.end_of_centres-requires
end_of_centres-requires c =
    let ordered = subst (λ ds. IsOrder (references_of ds) c.order-order.result.now) c.plan-plan.ensures.definitions c.order-order.ensures in
    subst (λ (ds : List Definition). All (λ place. place < length ds) c.order-order.result.now) (sym (c.definitions-definitions.ensures.definitions ∙ c.plan-plan.ensures.definitions)) (all_within c.args.project.now c.order-order.result.now ordered (length c.order-order.result.now) (omega arith))

pub order-init : goal.order-init
order-init c =
    let tried = c.in_ok-tried.tried in
    let same = c.in_ok-tried.ensures.built in
    tried_none c.args.project.now tried.built.items tried.built.items tried.empty.items (subst (AreFree c.args.project.now) (sym same) c.requires) refl
    (c.in_ok-tried.ensures.empty ∙ ap (λ (nets : List (Option Network)). replicate (length nets) false) (sym same))

pub outcome_of-requires-clause-place : goal.outcome_of-requires-clause-place
outcome_of-requires-clause-place c =
    let ordered = subst (λ ds. IsOrder (references_of ds) c.order-order.result.now) c.plan-plan.ensures.definitions c.order-order.ensures in
    here_within c.args.project.now c.order-order.result.now ordered c.in_ok-end.end c.in_ok-end.ensures.within _ refl c.order.place-index c.order-test.true

pub put-requires-clause-built : goal.put-requires-clause-built
put-requires-clause-built c =
    let ordered = subst (λ ds. IsOrder (references_of ds) c.order-order.result.now) c.plan-plan.ensures.definitions c.order-order.ensures in
    let below = here_within c.args.project.now c.order-order.result.now ordered c.in_ok-end.end c.in_ok-end.ensures.within _ refl c.order.place-index c.order-test.true in
    let many = c.order.invariant.are.are.count in
    omega (arith, below, many)

pub put-requires-clause-empty : goal.put-requires-clause-empty
put-requires-clause-empty c =
    let ordered = subst (λ ds. IsOrder (references_of ds) c.order-order.result.now) c.plan-plan.ensures.definitions c.order-order.ensures in
    let below = here_within c.args.project.now c.order-order.result.now ordered c.in_ok-end.end c.in_ok-end.ensures.within _ refl c.order.place-index c.order-test.true in
    let many = c.order.invariant.count in
    omega (arith, below, many)

pub order-preserved : goal.order-preserved
order-preserved c =
    let ordered = subst (λ ds. IsOrder (references_of ds) c.order-order.result.now) c.plan-plan.ensures.definitions c.order-order.ensures in
    let order = c.order-order.result.now in
    let front = take c.in_ok-end.end order in
    let place = get_or front c.order.place-index 0 in
    let is : IsOutcome c.args.project.now c.order.tried.built.items place c.in_ok-outcome.outcome = subst (λ (nets : List (Option Network)). IsOutcome c.args.project.now nets place c.in_ok-outcome.outcome) c.deref.ensures.value c.in_ok-outcome.ensures in
    let more =
    front_more c.args.project.now order ordered c.in_ok-end.end c.in_ok-end.ensures.within front refl c.order.place-index c.order-test.true c.in_ok-tried.tried.built.items c.order.tried.built.items c.order.tried.empty.items c.in_ok-outcome.outcome is c.order.invariant in
    let built : c.put.new.self.built.items ≡ with_network c.in_ok-outcome.outcome place c.order.tried.built.items = c.put.ensures.built in
    let empty : c.put.new.self.empty.items ≡ with_empty c.in_ok-outcome.outcome place c.order.tried.empty.items = c.put.ensures.empty in
    subst (λ (marks : List Bool). TriedSoFar c.args.project.now c.in_ok-tried.tried.built.items (take (c.order.place-index + 1) front) c.put.new.self.built.items marks) (sym empty)
    (subst (λ (nets : List (Option Network)). TriedSoFar c.args.project.now c.in_ok-tried.tried.built.items (take (c.order.place-index + 1) front) nets (with_empty c.in_ok-outcome.outcome place c.order.tried.empty.items)) (sym built) more)

pub returns-clause-tried : goal.returns-clause-tried
returns-clause-tried c =
    let ordered = subst (λ ds. IsOrder (references_of ds) c.order-order.result.now) c.plan-plan.ensures.definitions c.order-order.ensures in
    tried_front c.args.project.now c.order-order.result.now ordered c.in_ok-end.end c.in_ok-end.ensures.within (rw (c.definitions-definitions.ensures.definitions ∙ c.plan-plan.ensures.definitions) at c.in_ok-end.ensures.behind) c.in_ok-tried.tried.built.items _ c.order.place-index c.order.tried.built.items c.order.tried.empty.items refl c.order-test.false c.order.invariant

pub returns-clause-stay : goal.returns-clause-stay
returns-clause-stay c p n at = c.order.invariant.stay p n (ap (λ (nets : List (Option Network)). slice_get nets p) c.in_ok-tried.ensures.built ∙ at)
