use Rattle.std.proofs.Common.{arith, sym}
use Rattle.fsa_rational.specs.Shapes.{reversed_by}
use Rattle.fsa_rational.proofs.Extended.{comes_more}
use Rattle.fsa_rational.proofs.extend.add_reversed.Goals as goal

pub overflow_add-edge : goal.overflow_add-edge
overflow_add-edge g c =
    let fits = (c.requires c.edge-item.result (c.loop-edge.edge-index, c.loop-edge-test.true, sym c.edge-item.is)).1 in
    let states = c.states-states.ensures.number in
    omega arith

pub overflow_add-edge-in-loop-edge : goal.overflow_add-edge-in-loop-edge
overflow_add-edge-in-loop-edge g c =
    let fits = (c.requires c.edge-item.result (c.loop-edge.edge-index, c.loop-edge-test.true, sym c.edge-item.is)).0 in
    let states = c.states-states.ensures.number in
    omega arith

pub prove-unreachable-requires : goal.prove-unreachable-requires
prove-unreachable-requires g c =
    let fits = (c.requires c.edge-item.result (c.loop-edge.edge-index, c.loop-edge-test.true, sym c.edge-item.is)).1 in
    let states = c.states-states.ensures.number in
    let over = c.if-prove.true in
    omega arith

pub prove-unreachable-requires-in-loop-edge : goal.prove-unreachable-requires-in-loop-edge
prove-unreachable-requires-in-loop-edge g c =
    let fits = (c.requires c.edge-item.result (c.loop-edge.edge-index, c.loop-edge-test.true, sym c.edge-item.is)).0 in
    let states = c.states-states.ensures.number in
    let over = c.if-prove-2.true in
    omega arith

pub add_edge-requires-clause-from : goal.add_edge-requires-clause-from
add_edge-requires-clause-from g c =
    rw c.loop-edge.invariant.finals (c.requires c.edge-item.result (c.loop-edge.edge-index, c.loop-edge-test.true, sym c.edge-item.is)).1

pub add_edge-requires-clause-to : goal.add_edge-requires-clause-to
add_edge-requires-clause-to g c =
    rw c.loop-edge.invariant.finals (c.requires c.edge-item.result (c.loop-edge.edge-index, c.loop-edge-test.true, sym c.edge-item.is)).0

pub loop-edge-preserved : goal.loop-edge-preserved
loop-edge-preserved g c =
    comes_more (reversed_by c.args.by) c.args.edges.now c.loop-edge.edge-index c.edge-item.result c.loop-edge-test.true c.edge-item.is
    c.args.m.now c.loop-edge.m c.add_edge.new.self c.loop-edge.invariant c.in_ok-add_edge.ensures.ok
