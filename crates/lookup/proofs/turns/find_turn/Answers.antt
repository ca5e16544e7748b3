use Rattle.lookup.proofs.KeptPaths.{within_turned}
use Rattle.lookup.proofs.Turning.{free_all, free_more, no_turn_from_levels}
use Rattle.lookup.proofs.turns.find_turn.Goals as goal

pub returns-in_default-clause-none : goal.returns-in_default-clause-none
returns-in_default-clause-none g c = no_turn_from_levels c.args.edges.now c.deref.result.now c.in_default.ensures.none

pub grow-requires-clause-within : goal.grow-requires-clause-within
grow-requires-clause-within g c = within_turned c.args.edges.now c.in_ok-rows.rows c.in_ok-rows.ensures c.args.count c.requires.within

pub loop-edge-preserved : goal.loop-edge-preserved
loop-edge-preserved g c = free_more c.args.edges.now c.loop-edge.edge-index c.edge-item.result c.loop-edge-test.true c.edge-item.is c.loop-edge.invariant (rw c.in_default-3.is at c.in_ok-turn-2.ensures.none)

pub returns-clause-none : goal.returns-clause-none
returns-clause-none g c = free_all c.args.edges.now c.loop-edge.edge-index c.loop-edge-test.false c.loop-edge.invariant
