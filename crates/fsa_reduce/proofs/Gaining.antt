-- Lists that gain elements, one call after another.
use Rattle.std.proofs.Common.{◌≡◌, ℕ, ◌+◌, ◌<◌, ◌≤◌, ◌⊎◌, ◌↔◌, List, [], ◌∷◌, ◌++◌, length, get_or, take, subst, sym, inl, inr}
use Rattle.std.specs.List.{Contains}
use Rattle.std.proofs.lemmas.List.{take_more, take_all}
use Rattle.std.proofs.lemmas.List.Elements.{Contains-push_cases, Contains-push, Contains-append_left}
use Rattle.word_relations.proofs.Members.{Contains-nil_cases}
use Rattle.fsa_reduce.specs.Gains.{Gains, ForSome}

module _ {X : Type 0} where
  pub Gains-none : (P : X → Type 0) (xs : List X) → ((x : X) → P x → ⊥) → Gains P xs xs
  Gains-none P xs never = record { kept = λ x h. h; only = λ x h. inl h; all = λ x p. absurd (never x p) }

  pub Gains-push : (old new : List X) (x : X) → new ≡ old ++ x ∷ [] → Gains (λ y. y ≡ x) old new
  Gains-push old new x is = record {
    kept = λ y h. subst (λ ys. Contains ys y) (sym is) (Contains-append_left old (x ∷ []) y h);
    only = λ y h. elim (Contains-push_cases old x y (subst (λ ys. Contains ys y) is h)) [ inl held ↦ inl held | inr same ↦ inr (sym same) ];
    all = λ y same. subst (λ z. Contains new z) (sym same) (subst (λ ys. Contains ys x) (sym is) (Contains-push old x));
  }

  pub Gains-then : (P Q R : X → Type 0) (a b c : List X) → ((x : X) → R x → P x ⊎ Q x) → ((x : X) → P x → R x) → ((x : X) → Q x → R x) → Gains P a b → Gains Q b c → Gains R a c
  Gains-then P Q R a b c split f g first second = record {
    kept = λ x h. second.kept x (first.kept x h);
    only = λ x h. elim (second.only x h) [
      | inl held ↦ elim (first.only x held) [ inl older ↦ inl older | inr p ↦ inr (f x p) ]
      | inr q ↦ inr (g x q)
    ];
    all = λ x r. elim (split x r) [ inl p ↦ second.kept x (first.all x p) | inr q ↦ second.all x q ];
  }

  pub Gains-same : (P Q : X → Type 0) (a b : List X) → ((x : X) → P x → Q x) → ((x : X) → Q x → P x) → Gains P a b → Gains Q a b
  Gains-same P Q a b f g h = record {
    kept = h.kept;
    only = λ x c. elim (h.only x c) [ inl held ↦ inl held | inr p ↦ inr (f x p) ];
    all = λ x q. h.all x (g x q);
  }

  -- what a list that was empty has
  pub gained : (P : X → Type 0) (xs : List X) → Gains P [] xs → (x : X) → Contains xs x ↔ P x
  gained P xs h x = (λ c. elim (h.only x c) [ inl none ↦ absurd (Contains-nil_cases x none) | inr p ↦ p ], h.all x)

-- elements that come in for the items of a list, one by one
module _ {X Y : Type 0} (P : Y → X → Type 0) (items : List Y) where
  pub some_none : (xs : List X) → Gains (ForSome P (take 0 items)) xs xs
  some_none xs = Gains-none (ForSome P (take 0 items)) xs (λ x r. Contains-nil_cases r.0 r.1)

  pub some_more : (i : ℕ) (d : Y) → i < length items → (old now new : List X) → Gains (ForSome P (take i items)) old now → Gains (P (get_or items i d)) now new → Gains (ForSome P (take (i + 1) items)) old new
  some_more i d within old now new before step =
      let y : Y = get_or items i d in
      let front : take (i + 1) items ≡ take i items ++ y ∷ [] = take_more items i d within in
      Gains-then (ForSome P (take i items)) (P y) (ForSome P (take (i + 1) items)) old now new
      (λ x r. elim (Contains-push_cases (take i items) y r.0 (subst (λ ys. Contains ys r.0) front r.1)) [
        | inl held ↦ inl (r.0, held, r.2)
        | inr same ↦ inr (subst (λ z. P z x) (sym same) r.2)
      ])
      (λ x r. (r.0, subst (λ ys. Contains ys r.0) (sym front) (Contains-append_left (take i items) (y ∷ []) r.0 r.1), r.2))
      (λ x p. (y, subst (λ ys. Contains ys y) (sym front) (Contains-push (take i items) y), p))
      before step

  pub some_all : (i : ℕ) (old now : List X) → length items ≤ i → Gains (ForSome P (take i items)) old now → Gains (ForSome P items) old now
  some_all i old now past h = subst (λ ys. Gains (ForSome P ys) old now) (take_all i items past) h

-- one element for each item
module _ {X Y : Type 0} (change : Y → X) (items : List Y) where
  pub one_more : (i : ℕ) (d : Y) → i < length items → (old now new : List X) → Gains (ForSome (λ z x. x ≡ change z) (take i items)) old now → new ≡ now ++ change (get_or items i d) ∷ [] → Gains (ForSome (λ z x. x ≡ change z) (take (i + 1) items)) old new
  one_more i d within old now new before is = some_more (λ z x. x ≡ change z) items i d within old now new before (Gains-push now new (change (get_or items i d)) is)
