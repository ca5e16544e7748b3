use Rattle.std.proofs.lemmas.Result.{on_ok_weaker}
use Rattle.network_build.proofs.Uses.{pair_letters}
use Rattle.network_build.proofs.symbols.add_pair_letters.Goals as goal

pub returns : goal.returns
returns c =
    on_ok_weaker c.add_side.result
    (pair_letters c.args.symbols.now c.add_upper_letter.new.symbols c.add_side.new.symbols c.args.letter c.in-Some.pair c.in-Some.is c.in_ok-add_upper_letter.ensures)
    c.add_side.ensures
