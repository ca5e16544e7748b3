use Rattle.std.proofs.Common.{arith}
use Rattle.std.proofs.lemmas.List.{take_more}
use Rattle.grammar_pairs.proofs.Fits.{twice_all, twice_more}
use Rattle.grammar_pairs.proofs.fitting.numbers_of_twice.Goals as goal

pub symbols-preserved : goal.symbols-preserved
symbols-preserved c =
    twice_more c.args.pairs.now c.as_slice.ensures.distinct c.args.symbols.now c.symbols.symbol-index _ c.symbols.numbers.items c.add_found.new.numbers.items c.number_of.result (take_more c.args.symbols.now c.symbols.symbol-index _ (omega arith)) c.number_of.ensures c.in_ok-add_found.ensures c.symbols.invariant

pub returns : goal.returns
returns c = twice_all c.args.pairs.now c.args.symbols.now c.symbols.numbers.items c.symbols.symbol-index (omega arith) c.symbols.invariant
