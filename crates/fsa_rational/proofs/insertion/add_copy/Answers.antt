use Rattle.std.proofs.Common.{length, ap, arith}
use Rattle.std.proofs.lemmas.Result.{on_ok_weaker}
use Rattle.fsa_rational.proofs.Walks.{FitsBelow-from}
use Rattle.fsa_rational.proofs.IgnoringLanguage.{copy_added}
use Rattle.fsa_rational.proofs.insertion.add_copy.Goals as goal

pub add_shifted-requires : goal.add_shifted-requires
add_shifted-requires g c = rw c.edges.ensures.edges (FitsBelow-from c.args.put.now c.edges.ensures.formed c.args.by _ c.requires.room)

pub add_epsilon-requires-clause-to : goal.add_epsilon-requires-clause-to
add_epsilon-requires-clause-to g c =
    let start = c.edges.ensures.formed.start in
    let one = ap length c.in_ok-add_shifted.ensures.finals in
    let two = ap length c.in_ok-leave_finals.ensures.finals in
    let room = c.requires.room in
    omega arith

pub returns : goal.returns
returns g c =
    on_ok_weaker c.add_epsilon.result
    (copy_added c.args.put.now c.args.state c.args.by c.args.m.now c.add_shifted.new.m c.leave_finals.new.m c.add_epsilon.new.m
    (rw c.edges.ensures.edges at c.in_ok-add_shifted.ensures) (rw c.finals.ensures.finals at c.in_ok-leave_finals.ensures))
    c.add_epsilon.ensures
