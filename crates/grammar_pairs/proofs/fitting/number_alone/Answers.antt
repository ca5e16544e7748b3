use Rattle.grammar_pairs.proofs.Fits.{found_alone}
use Rattle.grammar_pairs.proofs.fitting.number_alone.Goals as goal

pub returns : goal.returns
returns c =
    found_alone c.args.pairs.now c.as_slice.ensures.distinct c.args.pair c.number_of.result c.new-numbers.result.items c.add_found.new.numbers.items c.new-numbers.ensures.items c.number_of.ensures c.in_ok-add_found.ensures
