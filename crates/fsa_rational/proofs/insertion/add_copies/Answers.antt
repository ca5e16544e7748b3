use Rattle.std.proofs.Common.{◌≤◌, ◌+◌, length, arith}
use Rattle.std.proofs.Math.Nat.{mul-le-mul_right}
use Rattle.fsa_rational.proofs.IgnoringLanguage.{copies_more}
use Rattle.fsa_rational.proofs.insertion.add_copies.Goals as goal

pub overflow_add-by : goal.overflow_add-by
overflow_add-by g c =
    let next : c.loop-state.state + 1 ≤ c.args.bound = omega arith in
    let rows = mul-le-mul_right (length c.args.put.now.finals) next in
    let all = c.states.ensures.number in
    let copy = c.states-by.ensures.number in
    let room = c.requires in
    let at = c.loop-state.invariant.at in
    omega (arith, rows)

pub loop-state-preserved : goal.loop-state-preserved
loop-state-preserved g c =
    let copy = c.states-by.ensures.number in
    let at = c.loop-state.invariant.at in
    record {
      at = omega arith;
      copies = copies_more c.args.put.now c.args.bound c.loop-state.state c.loop-state.by c.args.m.now c.loop-state.m c.add_copy.new.m at c.loop-state.invariant.copies c.in_ok-add_copy.ensures;
    }
