use Rattle.fsa_minimal.proofs.Kept.{below_pushed}
use Rattle.fsa_minimal.proofs.partition.numbers_below.Goals as goal

pub loop-number-preserved : goal.loop-number-preserved
loop-number-preserved c = below_pushed c.loop-number.numbers.items c.push.new.self.items c.loop-number.number c.in_ok-push.ensures.items c.loop-number.invariant
