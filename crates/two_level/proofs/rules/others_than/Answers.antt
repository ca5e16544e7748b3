use Rattle.std.proofs.Common.{None, ap, arith, ◌∙◌}
use Rattle.fsm_base.specs.declared.letters.Pair.{Pair}
use Rattle.two_level.proofs.KeptStrings.{others_step, others_pass, others_end_inserting, others_end}
use Rattle.two_level.proofs.rules.others_than.Goals as goal
use Rattle.two_level.proofs.rules.others_than.Goals.{then-is_other+in_ok-push, else-is_other, then-is_none+in_ok-push-2, else-is_none}

pub loop-other-preserved : goal.loop-other-preserved
loop-other-preserved c =
    let none : Pair = record { up = None; low = None } in
    elim c.if-is_other.branch [
      | then-is_other+in_ok-push w ↦
          others_step c.args.pairs.now c.args.pair none c.loop-other.other-index c.loop-other.others.items c.if-is_other.others.items c.loop-other-test.true c.loop-other.invariant (ap (λ v. v.items) w.others-is ∙ w.in_ok-push.ensures.items)
          (c.is_other.ensures.0 w.if-is_other.true)
      | else-is_other w ↦
          others_pass c.args.pairs.now c.args.pair none c.loop-other.other-index c.loop-other.others.items c.if-is_other.others.items c.is_other.result c.loop-other-test.true c.loop-other.invariant (ap (λ v. v.items) w.others-is) c.is_other.ensures.1
          w.if-is_other.false
    ]

pub returns : goal.returns
returns c =
    elim c.if-is_none.branch [
      | then-is_none+in_ok-push-2 w ↦
          others_end_inserting c.args.pairs.now c.args.pair c.loop-other.other-index c.loop-other.others.items c.if-is_none.others.items c.is_none.result (let past = c.loop-other-test.false in omega arith) c.loop-other.invariant
          (ap (λ v. v.items) w.others-is ∙ w.in_ok-push-2.ensures.items) c.is_none.ensures w.if-is_none.true
      | else-is_none w ↦
          others_end c.args.pairs.now c.args.pair c.loop-other.other-index c.loop-other.others.items c.if-is_none.others.items c.is_none.result (let past = c.loop-other-test.false in omega arith) c.loop-other.invariant (ap (λ v. v.items) w.others-is)
          c.is_none.ensures w.if-is_none.false
    ]
