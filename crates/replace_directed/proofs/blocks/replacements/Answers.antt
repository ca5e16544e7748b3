use Rattle.replace_directed.proofs.Unions.{below_none, below_more}
use Rattle.replace_directed.proofs.BlockWords.{IsBracketed, bracketed_bodies}
use Rattle.replace_directed.proofs.blocks.replacements.Goals as goal

pub loop-number-init : goal.loop-number-init
loop-number-init c = below_none (IsBracketed c.args.maps.now) c.in_ok-all.all c.in_ok-all.ensures

pub loop-number-preserved : goal.loop-number-preserved
loop-number-preserved c =
    let maps = c.args.maps.now in
    let k = c.loop-number.number in
    below_more (IsBracketed maps) k c.loop-number.all c.in_ok-more.more _ c.loop-number.invariant
    (bracketed_bodies maps k c.in_ok-inside.inside c.in_ok-more.more c.in_ok-inside.ensures c.in_ok-more.ensures) c.in_ok-all-2.ensures.language
