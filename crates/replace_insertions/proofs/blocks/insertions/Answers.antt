use Rattle.replace_insertions.specs.Marked.{IsInsertion}
use Rattle.replace_insertions.proofs.BlockWords.{below_none, below_more, insertion_words}
use Rattle.replace_insertions.proofs.blocks.insertions.Goals as goal

pub loop-number-init : goal.loop-number-init
loop-number-init c = below_none (IsInsertion c.args.put.now) c.in_ok-all.all c.in_ok-all.ensures

pub loop-number-preserved : goal.loop-number-preserved
loop-number-preserved c =
    let put = c.args.put.now in
    let k = c.loop-number.number in
    below_more (IsInsertion put) k c.loop-number.all c.in_ok-more.more _ c.loop-number.invariant
    (insertion_words put c.in_ok-words.words c.in_ok-lower.lower c.in_ok-more.more k c.in_ok-words.ensures.language c.in_ok-lower.ensures c.in_ok-more.ensures) c.in_ok-all-2.ensures.language
