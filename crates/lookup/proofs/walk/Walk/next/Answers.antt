use Rattle.std.proofs.Common.{◌≡◌, ◌≤◌, List, length, subst, arith}
use Rattle.lookup.specs.Walks.{HasMove, IsLeast, front_at}
use Rattle.lookup.specs.declared.walk.Move.{Move}
use Rattle.lookup.proofs.Trails.{least_follows, trail_count, trail_numbers, trail_row}
use Rattle.lookup.proofs.walk.Walk.next.Goals as goal

pub index-requires : goal.index-requires
index-requires c =
    let walk = c.args.self.now in
    let count = trail_count walk.rows walk.sets walk.leaving.items walk.text.items walk.trail.items c.requires.trail in
    omega (arith, count, walk.trail.ok, walk.text.ok, c.len.ensures)

pub index-requires-2 : goal.index-requires-2
index-requires-2 c =
    let walk = c.args.self.now in
    let same : c.len.result ≡ length walk.text.items = omega (arith, walk.text.ok, c.len.ensures) in
    let numbers = trail_numbers walk.rows walk.sets walk.leaving.items walk.text.items walk.trail.items c.requires.trail c.len.result c.index.result.now same c.index.ensures in
    omega (arith, numbers.1, walk.leaving.ok)

pub least_move-requires : goal.least_move-requires
least_move-requires c =
    let walk = c.args.self.now in
    let same : c.len.result ≡ length walk.text.items = omega (arith, walk.text.ok, c.len.ensures) in
    let row = trail_row walk.rows walk.sets walk.leaving.items walk.text.items walk.trail.items c.requires.trail c.len.result c.index.result.now c.index-2.result.now c.requires.learnt same c.index.ensures c.index-2.ensures in
    rw c.deref.ensures.value row.1.in_order

pub returns : goal.returns
returns c =
    let walk = c.args.self.now in
    let same : c.len.result ≡ length walk.text.items = omega (arith, walk.text.ok, c.len.ensures) in
    let own = c.index-2.result.now in
    let row = trail_row walk.rows walk.sets walk.leaving.items walk.text.items walk.trail.items c.requires.trail c.len.result c.index.result.now own c.requires.learnt same c.index.ensures c.index-2.ensures in
    least_follows walk.rows walk.sets (front_at walk.sets c.index.result.now) walk.text.items own.moves.items walk.floor c.least_move.result row.0 row.1
    (subst (λ (ms : List Move). IsLeast (λ byte. (walk.floor ≤ byte) × HasMove ms byte) c.least_move.result) c.deref.ensures.value c.least_move.ensures)
