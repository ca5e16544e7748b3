use Rattle.fsa_rational.specs.Shapes.{loop_at}
use Rattle.fsa_rational.proofs.Extended.{comes_more}
use Rattle.fsa_rational.proofs.translate.add_loops_at.Goals as goal

pub loop-letter-preserved : goal.loop-letter-preserved
loop-letter-preserved g c =
    comes_more (loop_at c.args.state) c.args.letters.now c.loop-letter.letter-index c.letter-item.result c.loop-letter-test.true c.letter-item.is
    c.args.m.now c.loop-letter.m c.add_edge.new.self c.loop-letter.invariant c.in_ok-add_edge.ensures.ok
