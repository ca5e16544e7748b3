use Rattle.grammar_weights.proofs.Lawful.{mapped_weighs as proved}
use Rattle.grammar_weights.proofs.laws.mapped_weighs.Goals as goal

pub returns : goal.returns
returns c = proved
