use Rattle.network_build.proofs.Uses.{with_symbol}
use Rattle.network_build.proofs.leaf_symbols.add_symbol.Goals as goal

pub returns-in_ok-add : goal.returns-in_ok-add
returns-in_ok-add c = with_symbol c.args.symbols.now c.add.new.self c.args.leaf.now c.in-Sym.symbol c.in-Sym.is c.in_ok-add.ensures
