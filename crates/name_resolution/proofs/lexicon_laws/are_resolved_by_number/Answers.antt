use Rattle.name_resolution.proofs.Numbering.{by_number}
use Rattle.name_resolution.proofs.lexicon_laws.are_resolved_by_number.Goals as goal

pub returns : goal.returns
returns c = by_number
