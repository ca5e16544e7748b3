use Rattle.std.proofs.Common.{◌≡◌, arith}
use Rattle.fsa.specs.Language.{Accepts}
use Rattle.expr_meaning.specs.Operators.{IsNotOne}
use Rattle.network_sets.proofs.Alike.{words_then, not_one_all}
use Rattle.network_sets.proofs.Backslashes.{not_one_few}
use Rattle.network_sets.proofs.prefixes.not_one_times.Goals as goal

pub returns-clause-words : goal.returns-clause-words
returns-clause-words c =
    let A = c.args.alphabet.now in
    let P = Accepts c.args.words in
    let few = c.few_of-end.result in
    let made = not_one_all A c.times.counter few P (Accepts c.times.words) (let all : c.times.counter ≡ few = omega (arith, c.times.auto.counter-end, c.times-test.false) in cc) c.times.invariant.words in
    words_then (Accepts c.times.words) (IsNotOne A few P) (IsNotOne A c.args.count P) made (not_one_few A P few c.args.count c.few_of-end.ensures)
