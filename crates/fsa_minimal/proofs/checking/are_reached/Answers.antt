use Rattle.fsa_minimal.proofs.Fewest.{reached_start}
use Rattle.fsa_minimal.proofs.checking.are_reached.Goals as goal

pub loop-state-init : goal.loop-state-init
loop-state-init g c = record { there = c.states-state-end.ensures.complete.start; reached = reached_start c.args.a.now }
