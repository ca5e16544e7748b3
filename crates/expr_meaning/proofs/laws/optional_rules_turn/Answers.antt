use Rattle.expr_meaning.proofs.Turned.{optional_rules_turn}
use Rattle.expr_meaning.proofs.laws.optional_rules_turn.Goals as goal

pub returns : goal.returns
returns c = optional_rules_turn
