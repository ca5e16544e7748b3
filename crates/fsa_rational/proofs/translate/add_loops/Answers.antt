use Rattle.std.proofs.Common.{◌≡◌, length, subst, arith}
use Rattle.fsa_rational.specs.Shapes.{Extends, LoopsBelow}
use Rattle.fsa_rational.proofs.Extended.{loops_none, loops_more}
use Rattle.fsa_rational.proofs.translate.add_loops.Goals as goal

pub loop-state-init : goal.loop-state-init
loop-state-init g c = loops_none c.args.letters.now c.args.m.now

pub add_loops_at-requires : goal.add_loops_at-requires
add_loops_at-requires g c = let states = c.states-state-end.ensures.number in rw c.loop-state.invariant.finals (omega arith)

pub loop-state-preserved : goal.loop-state-preserved
loop-state-preserved g c =
    loops_more c.args.letters.now c.loop-state.state c.args.m.now c.loop-state.m c.add_loops_at.new.m c.loop-state.invariant c.in_ok-add_loops_at.ensures

pub returns : goal.returns
returns g c =
    let states = c.states-state-end.ensures.number in
    let all : c.loop-state.state ≡ length c.args.m.now.finals = omega arith in
    subst (λ n. Extends c.args.m.now c.loop-state.m (LoopsBelow n c.args.letters.now)) all c.loop-state.invariant
