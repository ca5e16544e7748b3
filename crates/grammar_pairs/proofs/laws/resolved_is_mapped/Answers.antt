use Rattle.grammar_pairs.proofs.Replaced.{resolved_mapped}
use Rattle.grammar_pairs.proofs.laws.resolved_is_mapped.Goals as goal

pub returns : goal.returns
returns c = resolved_mapped
