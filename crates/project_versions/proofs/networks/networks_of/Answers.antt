use Rattle.std.proofs.Common.{◌+◌, List, Option, arith, subst, sym}
use Rattle.network_algebra.specs.declared.network.Network.{Network}
use Rattle.project_store.specs.Building.{IsThere}
use Rattle.project_versions.specs.Networks.{AreKeptIn, IsReadyAt}
use Rattle.project_versions.specs.declared.networks.Built.{Built}
use Rattle.project_versions.proofs.Readying.{ReadySoFar, are_ready, kept_on, next_ready, next_there, none_ready}
use Rattle.project_versions.proofs.networks.networks_of.Goals as goal

pub places-init : goal.places-init
places-init c = rw c.new-networks.ensures.items (none_ready c.in_ok-all.all.items c.args.kept.now)

pub built_at-requires-clause-there : goal.built_at-requires-clause-there
built_at-requires-clause-there c =
    subst (λ (nets : List (Option Network)). IsThere nets c.places.place) (sym c.deref.ensures.value)
    (next_there c.args.project.now c.in_ok-all.all.items c.in_ok-all.ensures.all c.places.place (omega arith))

pub built_at-requires-clause-kept : goal.built_at-requires-clause-kept
built_at-requires-clause-kept c =
    subst (AreKeptIn c.args.kept.now) (sym c.deref.ensures.value) (kept_on c.args.kept.now c.args.built.items c.in_ok-all.all.items c.in_ok-all.ensures.stay c.requires.kept)

pub places-preserved : goal.places-preserved
places-preserved c =
    let all = c.in_ok-all.all.items in
    let b = c.in_ok-built_at.field-0 in
    let ready = subst (λ (nets : List (Option Network)). IsReadyAt nets c.places.place b) c.deref.ensures.value c.in_ok-built_at.ensures.ready in
    subst (λ (bs : List Built). ReadySoFar all c.args.kept.now (c.places.place + 1) bs) (sym c.in_ok-push.ensures.items)
    (next_ready all c.args.kept.now c.places.place c.places.networks.items b c.places.invariant ready c.in_ok-built_at.ensures.kept)

pub returns-clause-ready : goal.returns-clause-ready
returns-clause-ready c =
    are_ready c.args.project.now c.in_ok-all.all.items c.in_ok-all.ensures.all c.args.kept.now c.places.place (omega arith) (omega arith) c.places.networks.items c.places.invariant

pub returns-clause-kept : goal.returns-clause-kept
returns-clause-kept c = c.places.invariant.kept_by
