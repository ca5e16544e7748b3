use Rattle.lexc_grammar.proofs.Once.{one_reading}
use Rattle.lexc_grammar.proofs.reading.one_reading.Goals as goal

pub returns : goal.returns
returns c = one_reading
