use Rattle.std.specs.List.{Contains}
use Rattle.fsa_minimal.proofs.Kept.{bools_as}
use Rattle.fsa_minimal.proofs.partition.is_as.Goals as goal

pub returns : goal.returns
returns c = bools_as c.contains.result c.args.is_marked (Contains c.args.marked.now.found c.args.state) c.contains.ensures
