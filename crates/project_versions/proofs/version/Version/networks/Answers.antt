use Rattle.std.proofs.Common.{◌∙◌, List, ap, map, subst, sym}
use Rattle.project_store.specs.Loaded.{IsLoadedFrom}
use Rattle.project_versions.specs.Networks.{AreReady, net_in}
use Rattle.project_versions.specs.Versions.{VersionView}
use Rattle.project_versions.specs.declared.networks.Built.{Built}
use Rattle.project_versions.proofs.version.Version.networks.Goals as goal

pub returns-clause-ready : goal.returns-clause-ready
returns-clause-ready c =
    subst (λ (v : VersionView). AreReady v.loaded c.deref.result.now) c.self.view_is (subst (AreReady c.self.inside.project) (sym c.deref.ensures.value) c.self.invariant.1)

pub returns-clause-nets : goal.returns-clause-nets
returns-clause-nets c = ap (λ (v : VersionView). v.nets) (sym c.self.view_is) ∙ ap (λ (bs : List Built). map net_in bs) (sym c.deref.ensures.value)

pub returns-clause-said : goal.returns-clause-said
returns-clause-said c =
    let (said, from, reads, table) = c.self.invariant.0.of_files in
    (said, subst (λ (v : VersionView). IsLoadedFrom said v.loaded) c.self.view_is from)
