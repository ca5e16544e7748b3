use Rattle.std.proofs.Common.{get_or, true, ◌∙◌}
use Rattle.std.proofs.lemmas.List.{length-set, get_or_default}
use Rattle.std.proofs.lemmas.List.Elements.{Contains-get_or}
use Rattle.std.proofs.lemmas.Option.{slice_get_within}
use Rattle.fsa_explore.proofs.Marking.{unmarked_more, unmarked_all}
use Rattle.fsa_explore.proofs.number_set.unmark.Goals as goal

pub bounds-marks-number : goal.bounds-marks-number
bounds-marks-number c =
    let at = slice_get_within _ _ true (c.requires.marked.marked _ (Contains-get_or c.args.numbers.now c.loop-number.number-index 0 c.loop-number-test.true)) in
    rw c.loop-number.invariant.0 at

pub loop-number-preserved : goal.loop-number-preserved
loop-number-preserved c =
    let n = get_or c.args.numbers.now c.loop-number.number-index 0 in
    let at = slice_get_within _ _ true (c.requires.marked.marked n (Contains-get_or c.args.numbers.now c.loop-number.number-index 0 c.loop-number-test.true)) in (
      length-set c.loop-number.marks n _ ∙ c.loop-number.invariant.0,
      unmarked_more c.loop-number.marks c.args.numbers.now c.loop-number.number-index n c.loop-number-test.true (get_or_default c.args.numbers.now c.loop-number.number-index 0 n c.loop-number-test.true) (rw c.loop-number.invariant.0 at) c.loop-number.invariant.1,
    )

pub returns-clause-marks : goal.returns-clause-marks
returns-clause-marks c = unmarked_all c.loop-number.marks c.args.numbers.now c.loop-number.number-index c.loop-number-test.false c.loop-number.invariant.1
