use Rattle.fsa_reduce.proofs.LettersNumbered.{numbered_more}
use Rattle.fsa_reduce.proofs.numbering.number_letters.Goals as goal

pub loop-edge-preserved : goal.loop-edge-preserved
loop-edge-preserved g c =
    numbered_more c.args.edges.now c.loop-edge.edge-index c.edge-item.result c.loop-edge-test.true c.edge-item.is c.loop-edge.letters.items c.number_of.new.letters.items
    c.loop-edge.numbered.items c.push.new.self.items c.in_ok-number.number c.in_ok-number.ensures.kept c.in_ok-number.ensures.number c.in_ok-push.ensures.items c.loop-edge.invariant
