-- Marks that are pushed one after another.
use Rattle.std.proofs.Common.{◌≡◌, ◌<◌, ◌↔◌, ◌+◌, ◌++◌, ◌⊎◌, [], ◌∷◌, ℕ, zero, suc, Bool, true, List, IsTrue, Some, length, length-append, slice_get, inl, inr, refl, sym, ap, subst, ◌∙◌, arith}
use Rattle.std.proofs.lemmas.Option.{same_Some}
use Rattle.word_relations.proofs.Places.{slice_get-push, slice_get-append_left}
use Rattle.project_definitions.specs.declared.definition.Definition.{Definition}
use Rattle.touched_names.specs.Places.{IsMarked}

below_or_at : (n k : ℕ) → n < k + 1 → (n < k) ⊎ (n ≡ k)
below_or_at zero zero l = inr refl
below_or_at zero (suc k) l = inl (omega arith)
below_or_at (suc n) zero l = absurd (omega (arith, l))
below_or_at (suc n) (suc k) l =
    elim (below_or_at n k (omega (arith, l))) as (λ _. (suc n < suc k) ⊎ (suc n ≡ suc k)) [
      | inl less ↦ inl (omega (arith, less))
      | inr same ↦ inr (ap suc same)
    ]

module _ (definitions : List Definition) (Has : ℕ → Definition → Type 0) (there : ℕ → ℕ) where
  -- the definitions before a place are marked where they have this
  abbrev AreRight : List Bool → ℕ → Type 0
  AreRight marks count = (place : ℕ) (d : Definition) → place < count → slice_get definitions place ≡ Some d → IsMarked marks place ↔ Has (there place) d

  -- and one more, whose mark is pushed
  module _ (marks new : List Bool) (count : ℕ) (mark : Bool) (given : Definition) (number : ℕ) (pushed : new ≡ marks ++ mark ∷ [])
      (at : slice_get definitions count ≡ Some given) (is : number ≡ there count) (right_mark : IsTrue mark ↔ Has number given) (many : length marks ≡ count) (right : AreRight marks count) where
    pub count_more : length new ≡ count + 1
    count_more = ap length pushed ∙ length-append marks (mark ∷ []) ∙ ap (λ (n : ℕ). n + 1) many

    here : slice_get new count ≡ Some mark
    here = ap (λ (xs : List Bool). slice_get xs count) pushed ∙ subst (λ (n : ℕ). slice_get (marks ++ mark ∷ []) n ≡ Some mark) many (slice_get-push marks mark)

    before : (place : ℕ) → place < count → slice_get new place ≡ slice_get marks place
    before place less = ap (λ (xs : List Bool). slice_get xs place) pushed ∙ slice_get-append_left marks (mark ∷ []) place (omega (arith, less, many))

    pub right_more : AreRight new (count + 1)
    right_more place d within at_place =
        elim (below_or_at place count within) as (λ _. IsMarked new place ↔ Has (there place) d) [
          | inl less ↦ (
            λ marked. (right place d less at_place).0 (sym (before place less) ∙ marked),
            λ has. before place less ∙ (right place d less at_place).1 has,
          )
          | inr same ↦
              let at_count : slice_get definitions count ≡ Some d = subst (λ (n : ℕ). slice_get definitions n ≡ Some d) same at_place in
              let one : given ≡ d = same_Some given d (sym at ∙ at_count) in
              let number_is : number ≡ there place = is ∙ ap there (sym same) in (
                λ marked. subst (λ (x : Definition). Has (there place) x) one (subst (λ (n : ℕ). Has n given) number_is (right_mark.0 (true_mark (subst (λ (n : ℕ). slice_get new n ≡ Some true) same marked)))),
                λ has. subst (λ (n : ℕ). slice_get new n ≡ Some true) (sym same) (here ∙ ap (λ (b : Bool). Some b) (right_mark.1 (subst (λ (n : ℕ). Has n given) (sym number_is) (subst (λ (x : Definition). Has (there place) x) (sym one) has)))),
              )
        ]
      where
        true_mark : slice_get new count ≡ Some true → mark ≡ true
        true_mark found = same_Some mark true (sym here ∙ found)
