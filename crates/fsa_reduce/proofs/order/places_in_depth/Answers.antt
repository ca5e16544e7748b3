use Rattle.std.proofs.Common.{◌≡◌, length, subst, arith}
use Rattle.fsa_reduce.specs.Orders.{IsOrder}
use Rattle.fsa_reduce.proofs.Ordering.{order_from}
use Rattle.fsa_reduce.proofs.order.places_in_depth.Goals as goal

pub returns-then-are_places : goal.returns-then-are_places
returns-then-are_places c =
    let places = c.deref-then-len-count.result.now in
    let states = c.deref-then-len-count-2.result.now in
    let are = c.are_places.ensures.0 c.if-are_places.true in
    let long = c.deref-then-len-count-2.ensures.len in
    let told = c.len.ensures in
    let enough = c.if-len-count.true in
    let count : length states ≡ c.args.count = omega arith in
    subst (λ n. IsOrder n c.in_ok-places.places.items) count (subst (IsOrder (length states)) c.deref-then-len-count.ensures.value (order_from places states are.0 are.1 are.2))
