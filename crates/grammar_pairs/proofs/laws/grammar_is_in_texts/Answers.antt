use Rattle.grammar_pairs.proofs.Replaced.{in_texts_mapped}
use Rattle.grammar_pairs.proofs.laws.grammar_is_in_texts.Goals as goal

pub returns : goal.returns
returns c = in_texts_mapped
