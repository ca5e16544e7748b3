use Rattle.std.proofs.lemmas.Result.{IfOk-weaker}
use Rattle.grammar_pairs.specs.Plain.{pair_of}
use Rattle.grammar_pairs.proofs.Fits.{fitting_alone}
use Rattle.grammar_pairs.proofs.fitting.numbers_fitting.Goals as goal

pub returns-in-Some : goal.returns-in-Some
returns-in-Some c =
    IfOk-weaker _ _ _ (λ numbers. fitting_alone c.args.pairs.now c.args.sets.now (pair_of c.args.atom.now) c.in-Some.pair numbers.items c.in-Some.ensures) c.number_alone.ensures
