use Rattle.replace_directed.proofs.LawProofs.{agrees_on_symbols}
use Rattle.replace_directed.proofs.laws.directed_agrees_on_symbols.Goals as goal

pub returns : goal.returns
returns c = agrees_on_symbols
