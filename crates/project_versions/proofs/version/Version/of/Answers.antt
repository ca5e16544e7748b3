use Rattle.std.proofs.Common.{refl}
use Rattle.project_versions.proofs.Readying.{are_networks}
use Rattle.project_versions.proofs.version.Version.of.Goals as goal

pub invariant_of-result : goal.invariant_of-result
invariant_of-result c = (
  record {
    few = c.requires.number;
    of_files = c.requires.files;
    networks = are_networks c.args.project c.in_ok-networks.networks.items c.in_ok-networks.ensures.ready;
  },
  c.in_ok-networks.ensures.ready,
)

pub returns : goal.returns
returns c said from says = record { number = refl; files = refl; said = said; loaded = from; project = refl; says = says }
