use Rattle.replace_directed.proofs.LawProofs.{leaves_others}
use Rattle.replace_directed.proofs.laws.directed_leaves_others.Goals as goal

pub returns : goal.returns
returns c = leaves_others
