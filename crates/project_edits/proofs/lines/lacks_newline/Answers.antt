use Rattle.std.proofs.Common.{nat_eq, refl}
use Rattle.project_edits.proofs.Parted.{written_lines}
use Rattle.project_edits.proofs.lines.lacks_newline.Goals as goal

pub returns-in-Some : goal.returns-in-Some
returns-in-Some c = written_lines c.args.content.now c.in-Some.field-0-1.now c.in-Some.last.now c.in-Some.ensures.cases.0 (nat_eq c.in-Some.last.now 10) refl
