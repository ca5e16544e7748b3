use Rattle.std.proofs.Common.{◌≡◌, List, ℕ, [], length, subst, sym, arith}
use Rattle.std.specs.List.{Contains}
use Rattle.std.proofs.lemmas.Option.{get_or_from_slice_get}
use Rattle.lookup.specs.Walks.{front_at}
use Rattle.lookup.proofs.Trails.{trail_at, trail_count, trail_held, trail_top}
use Rattle.lookup.proofs.walk.Walk.is_at_end.Goals as goal

pub index-requires : goal.index-requires
index-requires c =
    let walk = c.args.self.now in
    let count = trail_count walk.rows walk.sets walk.leaving.items walk.text.items walk.trail.items c.requires.trail in
    omega (arith, count, walk.trail.ok, walk.text.ok, c.len.ensures)

pub get-requires : goal.get-requires
get-requires c =
    let walk = c.args.self.now in
    let is = c.requires.trail in
    let same : c.len.result ≡ length walk.text.items = omega (arith, walk.text.ok, c.len.ensures) in
    let at = trail_at walk.trail.items walk.text.items c.len.result c.index.result.now (trail_count walk.rows walk.sets walk.leaving.items walk.text.items walk.trail.items is) same c.index.ensures in
    trail_held walk.rows walk.sets walk.leaving.items walk.text.items walk.trail.items is c.index.result.now at

pub returns : goal.returns
returns c =
    let walk = c.args.self.now in
    let trail = c.requires.trail in
    let number = c.index.result.now in
    let same : c.len.result ≡ length walk.text.items = omega (arith, walk.text.ok, c.len.ensures) in
    let at = trail_at walk.trail.items walk.text.items c.len.result number (trail_count walk.rows walk.sets walk.leaving.items walk.text.items walk.trail.items trail) same c.index.ensures in
    let front : c.get.result.now ≡ front_at walk.sets number = sym (get_or_from_slice_get walk.sets number c.get.result.now [] c.get.ensures) in
    let is = trail_top walk.rows walk.sets walk.leaving.items walk.text.items walk.trail.items trail number at in (
      λ h. (is 0).0 (subst (λ (ks : List ℕ). Contains ks 0) front (c.has.ensures.0 h)),
      λ h. c.has.ensures.1 (subst (λ (ks : List ℕ). Contains ks 0) (sym front) ((is 0).1 h)),
    )
