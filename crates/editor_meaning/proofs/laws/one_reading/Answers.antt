use Rattle.editor_meaning.proofs.Reading.{one_reading}
use Rattle.editor_meaning.proofs.laws.one_reading.Goals as goal

pub returns : goal.returns
returns c = one_reading
