use Rattle.replace_marks.proofs.Writing.{written_keeps}
use Rattle.replace_marks.proofs.laws.written_keeps_sides.Goals as goal

pub returns : goal.returns
returns c = written_keeps
