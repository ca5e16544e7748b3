use Rattle.std.proofs.Common.{◌≡◌, List, length, subst, arith}
use Rattle.std.specs.List.{Contains}
use Rattle.lookup.specs.Walks.{front_at}
use Rattle.lookup.specs.declared.walk.Move.{Move}
use Rattle.lookup.proofs.Fronts.{bytes_push}
use Rattle.lookup.proofs.Trails.{carries_follows, move_on, trail_count, trail_numbers, trail_push, trail_row}
use Rattle.lookup.proofs.walk.Walk.enter.Goals as goal

pub index-requires : goal.index-requires
index-requires c =
    let walk = c.args.self.now in
    let count = trail_count walk.rows walk.sets walk.leaving.items walk.text.items walk.trail.items c.requires.walk.trail in
    omega (arith, count, walk.trail.ok, walk.text.ok, c.len.ensures)

pub index-requires-2 : goal.index-requires-2
index-requires-2 c =
    let walk = c.args.self.now in
    let same : c.len.result ≡ length walk.text.items = omega (arith, walk.text.ok, c.len.ensures) in
    let numbers = trail_numbers walk.rows walk.sets walk.leaving.items walk.text.items walk.trail.items c.requires.walk.trail c.len.result c.index.result.now same c.index.ensures in
    omega (arith, numbers.1, walk.leaving.ok)

pub set_along-to-requires : goal.set_along-to-requires
set_along-to-requires c =
    let walk = c.args.self.now in
    let same : c.len.result ≡ length walk.text.items = omega (arith, walk.text.ok, c.len.ensures) in
    let row = trail_row walk.rows walk.sets walk.leaving.items walk.text.items walk.trail.items c.requires.walk.trail c.len.result c.index.result.now c.index-2.result.now c.requires.walk.learnt same c.index.ensures c.index-2.ensures in
    rw c.deref.ensures.value (row.1.all c.args.byte (carries_follows walk.rows (front_at walk.sets c.index.result.now) walk.text.items c.args.byte row.0 c.requires.follows))

pub learn-requires-clause-number : goal.learn-requires-clause-number
learn-requires-clause-number c =
    let walk = c.args.self.now in
    let same : c.len.result ≡ length walk.text.items = omega (arith, walk.text.ok, c.len.ensures) in
    let own = c.index-2.result.now in
    let row = trail_row walk.rows walk.sets walk.leaving.items walk.text.items walk.trail.items c.requires.walk.trail c.len.result c.index.result.now own c.requires.walk.learnt same c.index.ensures c.index-2.ensures in
    let m = c.set_along-to.ensures in
    (move_on walk.rows walk.sets (front_at walk.sets c.index.result.now) walk.text.items own.moves.items c.args.byte c.set_along-to.result row.0 row.1
    (m.0, subst (λ (ms : List Move). Contains ms m.0) c.deref.ensures.value m.1, m.2, m.3)).0

pub returns-clause-walk : goal.returns-clause-walk
returns-clause-walk c =
    let walk = c.args.self.now in
    let same : c.len.result ≡ length walk.text.items = omega (arith, walk.text.ok, c.len.ensures) in
    let own = c.index-2.result.now in
    let row = trail_row walk.rows walk.sets walk.leaving.items walk.text.items walk.trail.items c.requires.walk.trail c.len.result c.index.result.now own c.requires.walk.learnt same c.index.ensures c.index-2.ensures in
    let m = c.set_along-to.ensures in
    let on = move_on walk.rows walk.sets (front_at walk.sets c.index.result.now) walk.text.items own.moves.items c.args.byte c.set_along-to.result row.0 row.1
    (m.0, subst (λ (ms : List Move). Contains ms m.0) c.deref.ensures.value m.1, m.2, m.3) in
    record {
      trail = rw (c.in_ok-push.ensures.items, c.in_ok-push-2.ensures.items)
          (trail_push walk.rows walk.sets walk.leaving.items walk.text.items walk.trail.items c.requires.walk.trail c.learn.new.sets c.learn.new.leaving.items c.args.byte c.set_along-to.result
          c.in_ok-learn.ensures.more c.in_ok-learn.ensures.kept on.0 c.in_ok-learn.ensures.known on.1);
      learnt = c.in_ok-learn.ensures.learnt;
      within = rw c.in_ok-learn.ensures.bound c.requires.walk.within;
      bytes = rw c.in_ok-push.ensures.items (bytes_push walk.text.items c.args.byte c.requires.walk.bytes c.ranges.byte.fits);
      floor_within = omega arith;
    }
