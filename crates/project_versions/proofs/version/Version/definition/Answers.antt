use Rattle.std.proofs.Common.{◌≡◌, ◌<◌, List, Contains, length, Some, arith, refl, sym, subst, ap, ◌∙◌, slice_get}
use Rattle.std.proofs.lemmas.Option.{same_Some, slice_get_read, slice_get_within}
use Rattle.project_definitions.specs.declared.definition.Definition.{Definition as Defined}
use Rattle.project_versions.specs.Versions.{VersionView}
use Rattle.project_versions.proofs.version.Version.definition.Goals as goal

pub returns-in_err-place : goal.returns-in_err-place
returns-in_err-place c =
    rw c.from_residual.ensures (subst (λ (v : VersionView). (d : Defined) → Contains v.loaded.definitions d → d.name ≡ c.args.name.now → ⊥) c.self.view_is c.in_err-place.ensures)

pub bounds-definitions-place : goal.bounds-definitions-place
bounds-definitions-place c =
    let (d, at, named) = c.in_ok-place.ensures in
    subst (λ (ds : List Defined). c.in_ok-place.place < length ds) (sym (c.definitions.ensures.definitions ∙ c.plan.ensures.definitions)) (slice_get_within c.self.inside.project.definitions c.in_ok-place.place d at)

pub offset_bounds-definitions-place : goal.offset_bounds-definitions-place
offset_bounds-definitions-place c =
    let (d, at, named) = c.in_ok-place.ensures in
    let within = subst (λ (ds : List Defined). c.in_ok-place.place < length ds) (sym (c.definitions.ensures.definitions ∙ c.plan.ensures.definitions)) (slice_get_within c.self.inside.project.definitions c.in_ok-place.place d at) in
    omega (arith, within, c.definitions.type_inv.1)

pub returns : goal.returns
returns c =
    let (d, at, named) = c.in_ok-place.ensures in
    let same : c.definitions.result.now ≡ c.self.inside.project.definitions = c.definitions.ensures.definitions ∙ c.plan.ensures.definitions in
    let within = subst (λ (ds : List Defined). c.in_ok-place.place < length ds) (sym same) (slice_get_within c.self.inside.project.definitions c.in_ok-place.place d at) in
    let there : slice_get c.definitions.result.now c.in_ok-place.place ≡ Some c.index-definitions-place.result = slice_get_read c.definitions.result.now (length c.definitions.result.now) c.in_ok-place.place c.index-definitions-place.result refl within c.index-definitions-place.is in
    let here : slice_get c.self.inside.project.definitions c.in_ok-place.place ≡ Some c.index-definitions-place.result = subst (λ (ds : List Defined). slice_get ds c.in_ok-place.place ≡ Some c.index-definitions-place.result) same there in
    let one : c.index-definitions-place.result ≡ d = same_Some c.index-definitions-place.result d (sym here ∙ at) in
    let held : Contains c.self.inside.project.definitions c.index-definitions-place.result = subst (λ (ds : List Defined). Contains ds c.index-definitions-place.result) same (c.in_ok-place.place, within, sym c.index-definitions-place.is) in
    (subst (λ (v : VersionView). Contains v.loaded.definitions c.index-definitions-place.result) c.self.view_is held, ap (λ (x : Defined). x.name) one ∙ named)
