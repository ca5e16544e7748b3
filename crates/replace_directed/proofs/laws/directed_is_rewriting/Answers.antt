use Rattle.replace_directed.proofs.LawProofs.{is_rewriting}
use Rattle.replace_directed.proofs.laws.directed_is_rewriting.Goals as goal

pub returns : goal.returns
returns c = is_rewriting
