-- Two lists in order that have the same texts are one list, however long they are.
use Rattle.std.proofs.Common.{◌≡◌, ℕ, List, [], ◌∷◌, refl, sym, subst, ap, ◌∙◌, inl, inr}
use Rattle.std.specs.List.{Contains}
use Rattle.std.specs.declared.cmp.Ordering.TheVariants.{Less}
use Rattle.std.specs.Cmp.Lexicographic.{slice_cmp}
use Rattle.std.specs.Ordering.{nat_cmp, is_lt}
use Rattle.std.proofs.lemmas.Cmp.{nat_list_cmp_total, tied_itself}
use Rattle.std.proofs.Common.{true≢false}
use Rattle.word_relations.specs.Answers.{IsInOrder}
use Rattle.word_relations.proofs.Members.{Contains-nil_cases, Contains-head, Contains-tail, Contains-cons_cases}

abbrev IsBelow : List ℕ → List ℕ → Type 0
IsBelow x y = slice_cmp nat_cmp x y ≡ Less

not_itself : (x : List ℕ) → IsBelow x x → ⊥
not_itself x less = true≢false (sym (ap is_lt less) ∙ ap is_lt (tied_itself nat_list_cmp_total x))

not_both : (x y : List ℕ) → IsBelow x y → IsBelow y x → ⊥
not_both x y less back = not_itself x (nat_list_cmp_total.trans x y x less back)

-- the first text is below all that follow
first_below : (x : List ℕ) (xs : List (List ℕ)) → IsInOrder (x ∷ xs) → (t : List ℕ) → Contains xs t → IsBelow x t
first_below x [] h t inside = absurd (Contains-nil_cases t inside)
first_below x (y ∷ xs) h t inside =
    elim (Contains-cons_cases y xs t inside) [
      | inl e ↦ subst (IsBelow x) e h.0
      | inr later ↦ nat_list_cmp_total.trans x y t h.0 (first_below y xs h.1 t later)
    ]

rest_in_order : (x : List ℕ) (xs : List (List ℕ)) → IsInOrder (x ∷ xs) → IsInOrder xs
rest_in_order x [] h = tt
rest_in_order x (y ∷ xs) h = h.1

abbrev HasAll : List (List ℕ) → List (List ℕ) → Type 0
HasAll xs ys = (t : List ℕ) → Contains xs t → Contains ys t

same_first : (x y : List ℕ) (xs ys : List (List ℕ)) → IsInOrder (x ∷ xs) → IsInOrder (y ∷ ys) → HasAll (x ∷ xs) (y ∷ ys) → HasAll (y ∷ ys) (x ∷ xs) → x ≡ y
same_first x y xs ys p q to back =
    elim (Contains-cons_cases y ys x (to x (Contains-head x xs))) [
      | inl e ↦ sym e
      | inr later ↦ elim (Contains-cons_cases x xs y (back y (Contains-head y ys))) [
        | inl e ↦ e
        | inr earlier ↦ absurd (not_both x y (first_below x xs p y earlier) (first_below y ys q x later))
      ]
    ]

rest_has : (x : List ℕ) (xs ys : List (List ℕ)) → IsInOrder (x ∷ xs) → HasAll (x ∷ xs) (x ∷ ys) → HasAll xs ys
rest_has x xs ys p to t inside =
    elim (Contains-cons_cases x ys t (to t (Contains-tail x xs t inside))) [
      | inl e ↦ absurd (not_itself x (subst (IsBelow x) (sym e) (first_below x xs p t inside)))
      | inr later ↦ later
    ]

pub same_list : (xs ys : List (List ℕ)) → IsInOrder xs → IsInOrder ys → HasAll xs ys → HasAll ys xs → xs ≡ ys
same_list [] [] p q to back = refl
same_list [] (y ∷ ys) p q to back = absurd (Contains-nil_cases y (back y (Contains-head y ys)))
same_list (x ∷ xs) [] p q to back = absurd (Contains-nil_cases x (to x (Contains-head x xs)))
same_list (x ∷ xs) (y ∷ ys) p q to back =
    let e = same_first x y xs ys p q to back in
    let q2 = subst (λ z. IsInOrder (z ∷ ys)) (sym e) q in
    let to2 = subst (λ z. HasAll (x ∷ xs) (z ∷ ys)) (sym e) to in
    let back2 = subst (λ z. HasAll (z ∷ ys) (x ∷ xs)) (sym e) back in
    let tails = same_list xs ys (rest_in_order x xs p) (rest_in_order x ys q2) (rest_has x xs ys p to2) (rest_has x ys xs q2 back2) in
    ap (λ zs. x ∷ zs) tails ∙ ap (λ z. z ∷ ys) e
