use Rattle.std.proofs.lemmas.Result.{IfOk-weaker}
use Rattle.fsm_base.specs.declared.letters.Bound.TheVariants.{Inner}
use Rattle.replace_words.specs.declared.marks.Mark.TheVariants.{Close}
use Rattle.replace_rules.proofs.Sets.{right_kept}
use Rattle.replace_rules.proofs.constraints.keeps_right.Goals as goal

pub over-requires : goal.over-requires
over-requires c = rw c.letters-marks.ensures.letters c.letters-marks.ensures.complete.distinct

pub returns : goal.returns
returns c =
    IfOk-weaker _ _ _ (λ kept is. right_kept c.letters-marks.result.now c.args.right.now c.in_ok-others.others c.in_ok-broken.broken kept c.letters-marks.ensures.complete c.letters-marks.ensures.letters
    c.in_ok-wrong.wrong c.in_ok-close.close c.in_ok-any.any c.in_ok-rest.rest c.in_ok-whole.whole (Inner (Close c.args.place)) c.in_ok-others.ensures c.in_ok-wrong.ensures.language c.in_ok-close.ensures.language c.in_ok-any.ensures
    c.in_ok-broken.ensures is c.in_ok-rest.ensures.language c.in_ok-whole.ensures.language) c.complement-2.ensures
