use Rattle.std.proofs.Common.{sym}
use Rattle.lexc_forms.proofs.Positions.{none_passes}
use Rattle.lexc_forms.specs.Letters.{is_mark}
use Rattle.lexc_forms.proofs.Marks.{marked_front, no_other_mark}
use Rattle.lexc_forms.proofs.flags.marked_len.Goals as goal

pub returns-in-Some-mark : goal.returns-in-Some-mark
returns-in-Some-mark c = marked_front c.args.text.now c.in-Some.first.now c.in-Some.rest.now c.in-Some.ensures.cases.0 c.if-first-ne64.false c.in-Some-mark.place (sym c.in-Some-mark.ensures.first)

pub returns-in-None : goal.returns-in-None
returns-in-None c = no_other_mark c.args.text.now c.in-Some.first.now c.in-Some.rest.now c.in-Some.ensures.cases.0 (none_passes is_mark c.in-Some.rest.now (sym c.in-None.ensures.first))
