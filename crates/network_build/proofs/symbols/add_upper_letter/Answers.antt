use Rattle.network_build.proofs.Uses.{letter_added}
use Rattle.network_build.proofs.symbols.add_upper_letter.Goals as goal

pub returns-in_ok-add : goal.returns-in_ok-add
returns-in_ok-add c = letter_added c.args.symbols.now c.add.new.self c.args.side c.in-Some.symbol c.in-Some.is c.if-symbol-lt-FIRST.true c.in_ok-add.ensures
