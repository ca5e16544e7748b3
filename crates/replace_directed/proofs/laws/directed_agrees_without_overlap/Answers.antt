use Rattle.replace_directed.proofs.LawProofs.{agrees_without_overlap}
use Rattle.replace_directed.proofs.laws.directed_agrees_without_overlap.Goals as goal

pub returns : goal.returns
returns c = agrees_without_overlap
