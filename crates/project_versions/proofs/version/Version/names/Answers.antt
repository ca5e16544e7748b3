use Rattle.std.proofs.Common.{List, ℕ, Vec, Global, sym, subst}
use Rattle.project_sources.specs.Sources.{project_in}
use Rattle.project_store.proofs.Lawful.{if_ok}
use Rattle.project_versions.proofs.Naming.{names_mean}
use Rattle.project_versions.specs.Versions.{Stands, VersionView}
use Rattle.project_versions.proofs.version.Version.names.Goals as goal

pub returns : goal.returns
returns c meant stands =
    let own = subst (λ (v : VersionView). Stands v meant) (sym c.self.view_is) stands in
    if_ok _ _ (λ (names : Vec (List ℕ) Global) are. names_mean (project_in own.said) meant.project own.project names.items are) _ (c.names.ensures own.said own.loaded)
