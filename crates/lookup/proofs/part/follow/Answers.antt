use Rattle.lookup.proofs.Adding.{follows_more}
use Rattle.lookup.proofs.part.follow.Goals as goal

pub loop-m-preserved : goal.loop-m-preserved
loop-m-preserved c =
    follows_more c.args.moves.now c.args.place c.args.node c.loop-m.m-index _ c.args.explored.now c.loop-m.explored c.add.new.self c.loop-m-test.true c.loop-m.invariant c.in_ok-add.ensures
