use Rattle.std.proofs.Common.{◌≡◌, Some, length, cond, ap, sym, arith, ◌∙◌}
use Rattle.std.specs.BTreeMap.{get, is_at}
use Rattle.std.specs.Option.{option_copied}
use Rattle.std.specs.Ordering.{is_eq}
use Rattle.std.proofs.lemmas.Cmp.{tied_itself}
use Rattle.fsa_partial.proofs.Grouped.{grouping_new, is_equal}
use Rattle.fsa_partial.proofs.grouping.place_of.Goals as goal

pub returns-clause-groups : goal.returns-clause-groups
returns-clause-groups g c = λ edges is.
    let groups = c.args.groups.now.items in
    let R = g.L.Ord.cmp in
    let find = get R c.args.places.now in
    let x = c.args.letter in
    let place : c.len-place.result ≡ length groups = omega (arith, c.args.groups.now.ok.0, c.len-place.ensures) in
    rw c.in_ok-push.ensures.items (grouping_new edges find groups is x (is_at (R x))
    (λ y e. g.met.L.Letter.equal_is_same x y (is_equal (R x y) e)) (ap is_eq (tied_itself g.met.L.Ord.total x))
    (sym c.get.ensures.value ∙ ap option_copied c.in_default.is) (get R c.insert.new.self)
    (λ y. c.in_ok-insert.ensures.updates.0 y ∙ ap (λ n. cond (is_at (R x) y) (Some n) (find y)) place) c.new.result c.new.ensures.items)
