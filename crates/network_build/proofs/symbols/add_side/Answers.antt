use Rattle.network_build.proofs.Uses.{side_one}
use Rattle.network_build.proofs.symbols.add_side.Goals as goal

pub returns-in_ok-add : goal.returns-in_ok-add
returns-in_ok-add c = side_one c.args.symbols.now c.add.new.self c.args.side c.in-Some.symbol c.in-Some.is c.in_ok-add.ensures
