use Rattle.std.proofs.Common.{subst, sym}
use Rattle.network_build.specs.Networks.{CompiledView}
use Rattle.project_versions.specs.Networks.{IsReady}
use Rattle.project_versions.proofs.Readying.{made_ready}
use Rattle.project_versions.proofs.networks.Built.of.Goals as goal

pub returns-clause-ready : goal.returns-clause-ready
returns-clause-ready c =
    let like = rw c.network-2.ensures at c.in_ok-copy.ensures in
    subst (λ (z : CompiledView). IsReady c.args.network z.net) (sym c.in_ok-compiled-2.ensures.ok)
    (made_ready c.args.network c.in_ok-copy.copy c.in_ok-compiled.compiled.net like c.in_ok-compiled.ensures.relation c.in_ok-compiled.ensures.alphabet)
