use Rattle.std.proofs.Common.{◌≡◌, List, Option, Some, slice_get, subst, sym}
use Rattle.network_algebra.specs.declared.network.Network.{Network}
use Rattle.project_store.proofs.Networks.{like_built}
use Rattle.project_store.specs.Building.{IsThere}
use Rattle.named_networks.proofs.building.two_networks.Goals as goal

pub both_taken-one-requires-clause-first : goal.both_taken-one-requires-clause-first
both_taken-one-requires-clause-first c =
    let (n, at) = c.in_ok-fill_up_to.ensures.there in
    subst (λ (nets : List (Option Network)). IsThere nets c.args.first) (sym c.deref_mut.ensures.value) (n, c.in_ok-fill_up_to-2.ensures.stay c.args.first n at)

pub both_taken-one-requires-clause-second : goal.both_taken-one-requires-clause-second
both_taken-one-requires-clause-second c =
    subst (λ (nets : List (Option Network)). IsThere nets c.args.second) (sym c.deref_mut.ensures.value) c.in_ok-fill_up_to-2.ensures.there

pub returns-clause-first : goal.returns-clause-first
returns-clause-first c =
    let good =
    c.in_ok-fill_up_to-2.ensures.are.are.each c.args.first c.both_taken-one.result.0
    (subst (λ (nets : List (Option Network)). slice_get nets c.args.first ≡ Some (Some c.both_taken-one.result.0)) c.deref_mut.ensures.value c.both_taken-one.ensures.first) in
    like_built c.args.project.now c.args.first c.both_taken-one.result.0 _ good c.in_ok-into_network.ensures

pub returns-clause-second : goal.returns-clause-second
returns-clause-second c =
    let good =
    c.in_ok-fill_up_to-2.ensures.are.are.each c.args.second c.both_taken-one.result.1
    (subst (λ (nets : List (Option Network)). slice_get nets c.args.second ≡ Some (Some c.both_taken-one.result.1)) c.deref_mut.ensures.value c.both_taken-one.ensures.second) in
    like_built c.args.project.now c.args.second c.both_taken-one.result.1 _ good c.in_ok-into_network-2.ensures
