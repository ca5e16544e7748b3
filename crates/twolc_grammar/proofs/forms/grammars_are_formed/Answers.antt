use Rattle.twolc_grammar.proofs.Formed.{formed}
use Rattle.twolc_grammar.proofs.forms.grammars_are_formed.Goals as goal

pub returns : goal.returns
returns c = formed
