use Rattle.std.proofs.lemmas.Result.{on_ok_weaker}
use Rattle.network_build.proofs.Uses.{pair_both}
use Rattle.network_build.proofs.symbols.add_pair.Goals as goal

pub returns : goal.returns
returns c =
    on_ok_weaker c.add_side-2.result
    (pair_both c.args.symbols.now c.add_side.new.symbols c.add_side-2.new.symbols c.args.letter c.in-Some.pair c.in-Some.is c.in_ok-add_side.ensures)
    c.add_side-2.ensures
