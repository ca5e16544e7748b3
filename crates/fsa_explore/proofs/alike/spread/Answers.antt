use Rattle.std.proofs.Common.{◌<◌, length, get_or, arith}
use Rattle.fsa_explore.proofs.Spreading.{row_within, spread_more}
use Rattle.fsa_explore.proofs.alike.spread.Goals as goal

pub loop-state-preserved : goal.loop-state-preserved
loop-state-preserved c =
    let next = c.args.built.now.next.items in
    let count = c.args.count in
    let of_places = c.args.of_places.now in
    let state = c.loop-state.state in
    let states = length c.args.built.now.finals.items in
    let test = rw c.len-state-end.ensures at c.loop-state-test.true in
    let counted = c.args.built.now.finals.ok.0 in
    let there : state < states = omega arith in
    let added = rw c.deref.ensures.value at c.in_ok-add_columns.ensures in
    spread_more next count of_places state c.loop-state.spread.items c.add_columns.new.spread.items added
    (λ k d l. row_within next states count state (get_or of_places k d) c.requires.full there (c.requires.within k d l)) c.loop-state.invariant
