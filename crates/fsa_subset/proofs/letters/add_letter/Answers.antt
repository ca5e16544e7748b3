use Rattle.std.proofs.Common.{◌≡◌, Some, Contains, cond, length, arith, inl, inr, ap, sym, subst, ◌∙◌}
use Rattle.std.specs.BTreeMap.{get, is_at}
use Rattle.std.specs.Option.{is_some}
use Rattle.std.specs.Ordering.{is_eq}
use Rattle.std.proofs.lemmas.Cmp.{tied_itself}
use Rattle.std.proofs.lemmas.Option.{same_Some}
use Rattle.word_relations.proofs.Places.{Contains-from_slice_get}
use Rattle.fsa_subset.proofs.Lettered.{found_push, found_some, found_none, is_equal}
use Rattle.fsa_subset.proofs.letters.add_letter.Goals as goal

pub returns-then-is_some-clause-letters : goal.returns-then-is_some-clause-letters
returns-then-is_some-clause-letters g c = λ x h.
    let letters = c.args.letters.now.items in
    let find = get g.L.Ord.cmp c.args.places.now in
    let y = c.in-Some.letter in
    elim h [
      | inl was ↦ was
      | inr is ↦
          let same : y ≡ x = same_Some y x (sym c.in-Some.is ∙ is) in
          let k = found_some (find y) (ap is_some (sym c.place_of.ensures) ∙ sym c.is_some.ensures ∙ c.if-is_some.true) in
          subst (Contains letters) same (Contains-from_slice_get letters k.0 y (c.requires.only y k.0 k.1))
    ]

pub returns-clause-found : goal.returns-clause-found
returns-clause-found g c =
    let letters = c.args.letters.now.items in
    let R = g.L.Ord.cmp in
    let find = get R c.args.places.now in
    let x = c.in-Some.letter in
    let place : c.len-place.result ≡ length letters = omega (arith, c.args.letters.now.ok.0, c.len-place.ensures) in
    rw c.in_ok-push.ensures.items (found_push letters find c.requires x (is_at (R x))
    (λ y e. g.met.L.Letter.equal_is_same x y (is_equal (R x y) e)) (ap is_eq (tied_itself g.met.L.Ord.total x))
    (found_none (find x) (ap is_some (sym c.place_of.ensures) ∙ sym c.is_some.ensures ∙ c.if-is_some.false)) (get R c.insert.new.self)
    (λ y. c.in_ok-insert.ensures.updates.0 y ∙ ap (λ n. cond (is_at (R x) y) (Some n) (find y)) place))
