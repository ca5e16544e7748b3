use Rattle.std.proofs.Common.{get_or}
use Rattle.std.proofs.lemmas.List.{get_or_default}
use Rattle.fsa_subset.proofs.Settling.{moves_more, moves_all}
use Rattle.fsa_subset.proofs.subsets.moves_from.Goals as goal

pub loop-state-preserved : goal.loop-state-preserved
loop-state-preserved c =
    let set = c.args.set.now in
    let i = c.loop-state.state-index in
    let state = get_or set i 0 in
    moves_more c.args.rows.now set i state c.loop-state-test.true (get_or_default set i 0 state c.loop-state-test.true) c.out.result.now c.out.ensures
    c.loop-state.moves.items c.add_moves.new.moves.items c.in_ok-add_moves.ensures c.loop-state.invariant

pub returns : goal.returns
returns c = moves_all c.args.rows.now c.args.set.now c.loop-state.state-index c.loop-state.moves.items c.loop-state-test.false c.loop-state.invariant
