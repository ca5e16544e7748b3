use Rattle.std.proofs.Common.{◌≡◌, List, None, Option, Some, arith, slice_get, subst, sym}
use Rattle.network_algebra.specs.declared.network.Network.{Network}
use Rattle.project_store.specs.Building.{IsBuiltAt, IsThere}
use Rattle.project_store.proofs.Networks.{filled_before, filled_now}
use Rattle.project_store.proofs.Trying.{is_free}
use Rattle.project_store.proofs.building.fill.Goals as goal

pub returns-then-has_network : goal.returns-then-has_network
returns-then-has_network c =
    let there = subst (λ (nets : List (Option Network)). IsThere nets c.args.place) c.deref.ensures.value (rw c.if-has_network.true at c.has_network.ensures.yes) in
    filled_before c.args.project.now c.args.built.now.items c.args.place c.requires.built there

pub plainly_built-requires-clause-plain : goal.plainly_built-requires-clause-plain
plainly_built-requires-clause-plain c =
    c.requires.built.plain c.args.place (subst (λ (nets : List (Option Network)). slice_get nets c.args.place ≡ Some None) c.deref.ensures.value (rw c.if-has_network.false at c.has_network.ensures.no))

pub returns : goal.returns
returns c =
    let loaded = c.args.project.now in
    let built = c.args.built.now.items in
    let count = c.requires.built.are.count in
    let lacking = subst (λ (nets : List (Option Network)). slice_get nets c.args.place ≡ Some None) c.deref.ensures.value (rw c.if-has_network.false at c.has_network.ensures.no) in
    let free = is_free loaded built (record { are = c.requires.built.are; free = c.requires.built.free }) c.args.place c.requires.parts c.in_ok-network.ensures.filled in
    filled_now loaded built c.args.place c.in_ok-shared.shared (omega (arith, c.requires.place, count)) c.requires.built (subst (IsBuiltAt loaded c.args.place) (sym c.in_ok-shared.ensures) c.in_ok-network.ensures.network) free lacking

pub plainly_built-requires-clause-parts : goal.plainly_built-requires-clause-parts
plainly_built-requires-clause-parts c other refers = subst (λ (nets : List (Option Network)). IsThere nets other) (sym c.deref-2.ensures.value) (c.requires.parts other refers)
