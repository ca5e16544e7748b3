use Rattle.project_meaning.proofs.Positive.{positive_flags_as_before}
use Rattle.project_meaning.proofs.laws.positive_flags_as_before.Goals as goal

pub returns : goal.returns
returns c = positive_flags_as_before
