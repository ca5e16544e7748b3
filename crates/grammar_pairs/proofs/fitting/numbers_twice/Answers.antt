use Rattle.std.proofs.lemmas.Result.{IfOk-weaker}
use Rattle.grammar_pairs.proofs.Fits.{twice_named, twice_none}
use Rattle.grammar_pairs.proofs.fitting.numbers_twice.Goals as goal

pub returns-in-Some : goal.returns-in-Some
returns-in-Some c =
    IfOk-weaker _ _ _ (λ numbers. twice_named c.args.pairs.now c.args.sets.now c.args.name.now c.in-Some.symbols.now numbers.items c.in-Some.ensures) (rw c.as_slice.ensures at c.numbers_of_twice.ensures)

pub returns-in-None : goal.returns-in-None
returns-in-None c = twice_none c.args.pairs.now c.args.sets.now c.args.name.now c.new.result.items c.in-None.ensures c.new.ensures.items
