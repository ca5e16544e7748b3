use Rattle.twolc_grammar.proofs.Once.{one_reading as reading_once}
use Rattle.twolc_grammar.proofs.laws.one_reading.Goals as goal

pub returns : goal.returns
returns c = λ text a b r s. reading_once text a b r s
