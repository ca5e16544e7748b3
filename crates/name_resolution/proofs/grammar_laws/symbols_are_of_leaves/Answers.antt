use Rattle.name_resolution.proofs.GrammarSymbols.{symbols_of_leaves}
use Rattle.name_resolution.proofs.grammar_laws.symbols_are_of_leaves.Goals as goal

pub returns : goal.returns
returns c = symbols_of_leaves
