use Rattle.replace_marks.proofs.Writing.{written_is_over}
use Rattle.replace_marks.proofs.laws.written_is_over_marks.Goals as goal

pub returns : goal.returns
returns c = written_is_over
