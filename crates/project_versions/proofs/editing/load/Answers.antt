use Rattle.std.proofs.Common.{refl, subst, sym}
use Rattle.project_sources.specs.Sources.{project_in}
use Rattle.project_store.specs.Loaded.{IsLoadedFrom}
use Rattle.project_store.specs.Projects.{IsOfSources}
use Rattle.project_versions.proofs.editing.load.Goals as goal

pub of-requires-clause-files : goal.of-requires-clause-files
of-requires-clause-files c = subst (IsOfSources c.args.sources) (sym c.into_parts-project.ensures.project) c.in_ok-ready.ensures.project

pub returns-clause-loaded : goal.returns-clause-loaded
returns-clause-loaded c =
    let (said, from, says, table) = c.in_ok-ready.ensures.project in
    let own = subst (IsLoadedFrom said) (sym c.into_parts-project.ensures.project) from in
    (record { number = 1; files = c.args.sources; project = project_in said }, c.in_ok-version.ensures said own says, record { first = refl; files_are = refl; says = says })
