use Rattle.std.proofs.Common.{refl}
use Rattle.flag_diacritics.proofs.Idling.{idle_more, idle_all}
use Rattle.flag_diacritics.proofs.idle.are_idle.Goals as goal

pub edges-preserved : goal.edges-preserved
edges-preserved c = idle_more c.args.actions.now c.args.idle.now c.args.edges.now c.edges.edge-index _ c.edges-test.true c.edges.invariant (c.if-not-is_idle_along.ensures refl)

pub returns : goal.returns
returns c = λ _. idle_all c.args.actions.now c.args.idle.now c.args.edges.now c.edges.edge-index c.edges-test.false c.edges.invariant
