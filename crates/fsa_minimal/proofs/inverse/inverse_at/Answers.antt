use Rattle.std.proofs.Common.{◌<◌, length, refl, arith}
use Rattle.std.proofs.lemmas.Option.{slice_get_read}
use Rattle.fsa_minimal.proofs.Chained.{inverse_more}
use Rattle.fsa_minimal.proofs.inverse.inverse_at.Goals as goal

pub loop-state-preserved : goal.loop-state-preserved
loop-state-preserved g c =
    let lasts = c.loop-state.last.items in
    let to = c.next-to.result in
    let there : to < length lasts = let w = c.next-to.ensures.within in let n = c.loop-state.invariant.last_count in omega arith in
    inverse_more c.args.a.now c.args.place c.loop-state.state to c.index.result.now lasts c.loop-state.before.items c.next-to.ensures.next
    (slice_get_read lasts (length lasts) to c.index.result.now refl there c.index.ensures) c.loop-state.invariant c.push.new.self.items c.in_ok-push.ensures.items
