use Rattle.std.proofs.Common.{◌≡◌, subst, sym}
use Rattle.std.proofs.lemmas.Option.{slice_get_within}
use Rattle.project_meaning.specs.Forms.{kind_in}
use Rattle.project_meaning.specs.Projects.{Defines, Project}
use Rattle.project_store.proofs.Shown.{defined_here, name_there, shows_none}
use Rattle.project_versions.specs.Versions.{Stands, VersionView}
use Rattle.project_versions.proofs.version.Version.kind.Goals as goal

pub returns-in_err-place : goal.returns-in_err-place
returns-in_err-place c meant stands =
    let own = subst (λ (v : VersionView). Stands v meant) (sym c.self.view_is) stands in
    rw c.from_residual.ensures (subst (λ (p : Project). ¬ (Defines p c.args.name.now)) (sym own.project) (shows_none own.said c.self.inside.project own.loaded c.args.name.now c.in_err-place.ensures))

pub kind_at-requires : goal.kind_at-requires
kind_at-requires c = let (d, at, named) = c.in_ok-place.ensures in slice_get_within c.self.inside.project.definitions c.in_ok-place.place d at

pub returns : goal.returns
returns c meant stands =
    let own = subst (λ (v : VersionView). Stands v meant) (sym c.self.view_is) stands in
    let loaded = c.self.inside.project in
    let name = c.args.name.now in
    let place = c.in_ok-place.place in
    let (d, at, named) = c.in_ok-place.ensures in
    subst (λ (p : Project). Defines p name × (c.kind_at.result ≡ kind_in p name)) (sym own.project)
    (defined_here own.said loaded own.loaded place d at name named, c.kind_at.ensures.kind own.said name own.loaded (name_there own.said loaded own.loaded place d at name named))
