use Rattle.two_level.proofs.SpelledStrings.{spelled_there, spelled_back}
use Rattle.two_level.proofs.laws.grammar_is_spelled.Goals as goal

pub returns : goal.returns
returns c = λ text g pairs rules stands u w. (spelled_there text g pairs rules stands u w, spelled_back text g pairs rules stands u w)
