use Rattle.pair_lines.proofs.Passing.{passing_meant}
use Rattle.pair_lines.proofs.laws.passing_is_meant.Goals as goal

pub returns : goal.returns
returns c = passing_meant c.passing_is_related.ensures c.grammar_is_spelled.ensures
