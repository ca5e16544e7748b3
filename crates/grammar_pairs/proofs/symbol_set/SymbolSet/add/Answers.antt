use Rattle.grammar_pairs.proofs.Found.{same_symbol, symbol_eq}
use Rattle.grammar_pairs.proofs.Growing.{inserted}
use Rattle.grammar_pairs.proofs.symbol_set.SymbolSet.add.Goals as goal

pub returns : goal.returns
returns c = λ s. rw (← c.self.view_is) (rw c.in_ok-insert.ensures.keys (inserted symbol_eq same_symbol c.self.inside.symbols.keys c.args.symbol s))
