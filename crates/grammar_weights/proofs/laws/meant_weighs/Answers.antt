use Rattle.grammar_weights.proofs.Lawful.{meant_weighs as proved}
use Rattle.grammar_weights.proofs.laws.meant_weighs.Goals as goal

pub returns : goal.returns
returns c = proved
