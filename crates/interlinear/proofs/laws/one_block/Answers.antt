use Rattle.interlinear.proofs.One.{one_block}
use Rattle.interlinear.proofs.laws.one_block.Goals as goal

pub returns : goal.returns
returns c = one_block
