use Rattle.grammar_pairs.proofs.Found.{any_has, own_symbol, same_symbol, symbol_eq}
use Rattle.grammar_pairs.proofs.symbol_set.SymbolSet.contains.Goals as goal

pub returns : goal.returns
returns c = rw (← c.self.view_is) (rw c.contains.ensures (any_has symbol_eq same_symbol own_symbol c.args.symbol c.self.inside.symbols.keys))
