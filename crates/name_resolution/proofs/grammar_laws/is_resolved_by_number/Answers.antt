use Rattle.name_resolution.proofs.GrammarNumbering.{by_number}
use Rattle.name_resolution.proofs.grammar_laws.is_resolved_by_number.Goals as goal

pub returns : goal.returns
returns c = by_number
