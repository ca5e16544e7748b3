use Rattle.std.proofs.Common.{Some, None, arith, sym, subst}
use Rattle.std.proofs.lemmas.List.{length-map}
use Rattle.std.proofs.lemmas.Option.{slice_get_within}
use Rattle.lookup.specs.Answering.{IsOverAlphabet}
use Rattle.project_store.specs.Networks.{Shows}
use Rattle.project_versions.specs.Networks.{net_in}
use Rattle.project_versions.specs.Versions.{Stands, VersionView}
use Rattle.project_versions.proofs.Replying.{net_there, shows_here, shows_nowhere}
use Rattle.project_versions.proofs.version.Version.net.Goals as goal

pub index-requires : goal.index-requires
index-requires c =
    let (d, at, named) = c.in_ok-place.ensures in
    let within = slice_get_within c.self.inside.project.definitions c.in_ok-place.place d at in
    let count = c.self.invariant.0.networks.count in
    omega (arith, within, count, length-map c.self.inside.networks.items net_in, c.self.inside.networks.ok.0)

pub returns-clause-over : goal.returns-clause-over
returns-clause-over c =
    let (d, at, named) = c.in_ok-place.ensures in
    let within = slice_get_within c.self.inside.project.definitions c.in_ok-place.place d at in
    let networks = c.self.invariant.0.networks in
    let there = net_there c.self.inside.networks.items c.in_ok-place.place _ c.index.result.now c.net.result.now within networks.count c.index.ensures c.net.ensures in
    subst (λ (v : VersionView). IsOverAlphabet v.loaded.alphabet c.net.result.now) c.self.view_is (networks.over c.in_ok-place.place c.net.result.now there)

pub returns-clause-shows : goal.returns-clause-shows
returns-clause-shows c meant stands =
    let own = subst (λ (v : VersionView). Stands v meant) (sym c.self.view_is) stands in
    let (d, at, named) = c.in_ok-place.ensures in
    let within = slice_get_within c.self.inside.project.definitions c.in_ok-place.place d at in
    let networks = c.self.invariant.0.networks in
    let there = net_there c.self.inside.networks.items c.in_ok-place.place _ c.index.result.now c.net.result.now within networks.count c.index.ensures c.net.ensures in
    let shown = shows_here _ meant own networks c.args.name.now c.in_ok-place.place d at named c.net.result.now there in
    subst (λ (v : VersionView). Shows (record { alphabet = v.loaded.alphabet; name = c.args.name.now; net = Some c.net.result.now; glosses = v.loaded.glosses }) meant.project) c.self.view_is shown

pub returns-in_err-place-clause-shows : goal.returns-in_err-place-clause-shows
returns-in_err-place-clause-shows c meant stands =
    let own = subst (λ (v : VersionView). Stands v meant) (sym c.self.view_is) stands in
    let shown = shows_nowhere _ meant own c.args.name.now c.in_err-place.ensures in
    rw c.from_residual.ensures (subst (λ (v : VersionView). Shows (record { alphabet = v.loaded.alphabet; name = c.args.name.now; net = None; glosses = v.loaded.glosses }) meant.project) c.self.view_is shown)
