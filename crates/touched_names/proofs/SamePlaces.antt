-- The places at which two lists of texts have the same one, marked one after another.
use Rattle.std.proofs.Common.{◌≡◌, ◌<◌, ◌≤◌, ◌+◌, ◌++◌, ◌⊎◌, ◌↔◌, ℕ, zero, suc, Bool, true, List, [], ◌∷◌, length, IsTrue, Option, Some, None, slice_get, refl, sym, ap, subst, ◌∙◌, inl, inr, arith}
use Rattle.std.proofs.lemmas.Bool.{cases_lt}
use Rattle.std.proofs.lemmas.List.{length-append}
use Rattle.std.proofs.lemmas.Option.{same_Some, slice_get_within}
use Rattle.word_relations.proofs.Places.{slice_get-append_cases, slice_get-append_left, slice_get-append_right}
use Rattle.touched_names.specs.Places.{IsMarked}
use Rattle.touched_names.specs.Staying.{IsSameAt}

-- of the places before this one, those are marked at which the texts are the same
pub record SameSoFar (texts others : List (List ℕ)) (i : ℕ) (marks : List Bool) : Type 0 where
  pub count : length marks ≡ i
  pub to : (place : ℕ) → IsMarked marks place → IsSameAt texts others place
  pub back : (place : ℕ) → place < i → IsSameAt texts others place → IsMarked marks place

no_mark : (place : ℕ) → slice_get {X = Bool} [] place ≡ Some true → ⊥
no_mark place e = let none : ◌≡◌ {A = Option Bool} None (Some true) = e in cc

pub none_same : (texts others : List (List ℕ)) → SameSoFar texts others 0 []
none_same texts others = record {
  count = refl;
  to = λ place h. absurd (no_mark place h);
  back = λ place below. absurd (omega (arith, below));
}

module _ (texts others : List (List ℕ)) (i : ℕ) (marks : List Bool) (mark : Bool) (text : List ℕ) (at : slice_get texts i ≡ Some text) (test : IsTrue mark ↔ (slice_get others i ≡ Some text)) (so_far : SameSoFar texts others i marks) where
  last : slice_get (marks ++ mark ∷ []) i ≡ Some mark
  last =
      ap (slice_get (marks ++ mark ∷ [])) (let count = so_far.count in let e : i ≡ 0 + length marks = omega (arith, count) in e)
      ∙ slice_get-append_right marks (mark ∷ []) 0

  same_here : mark ≡ true → IsSameAt texts others i
  same_here is = (text, at, test.0 is)

  last_to : (place j : ℕ) → place ≡ j + length marks → slice_get (mark ∷ []) j ≡ Some true → IsSameAt texts others place
  last_to place zero is here =
      let count = so_far.count in
      let e : i ≡ place = omega (arith, is, count) in
      subst (IsSameAt texts others) e (same_here (same_Some mark true here))
  last_to place (suc j) is here = absurd (no_mark j here)

  back_at : (place : ℕ) → place < i + 1 → IsSameAt texts others place → (place < i) ⊎ (i ≤ place) → IsMarked (marks ++ mark ∷ []) place
  back_at place below same (inl less) = (let count = so_far.count in slice_get-append_left marks (mark ∷ []) place (omega (arith, less, count))) ∙ so_far.back place less same
  back_at place below same (inr more) =
      let e : i ≡ place = omega (arith, below, more) in
      let (t, t_at, t_there) = subst (IsSameAt texts others) (sym e) same in
      let is : t ≡ text = same_Some t text (sym t_at ∙ at) in
      let mark_is : mark ≡ true = test.1 (t_there ∙ ap (λ (x : List ℕ). Some x) is) in
      subst (IsMarked (marks ++ mark ∷ [])) e (last ∙ ap (λ (b : Bool). Some b) mark_is)

  pub more_same : SameSoFar texts others (i + 1) (marks ++ mark ∷ [])
  more_same = record {
    count = length-append marks (mark ∷ []) ∙ ap (λ (k : ℕ). k + 1) so_far.count;
    to = λ place h. elim (slice_get-append_cases marks (mark ∷ []) place true h) as (λ _. IsSameAt texts others place) [
      | inl before ↦ so_far.to place before
      | inr (j, is, here) ↦ last_to place j is here
    ];
    back = λ place below same. back_at place below same (cases_lt place i);
  }

pub all_same : (texts others : List (List ℕ)) (i : ℕ) (marks : List Bool) → length texts ≤ i → SameSoFar texts others i marks → (place : ℕ) → IsMarked marks place ↔ IsSameAt texts others place
all_same texts others i marks past so_far place = (
  so_far.to place,
  λ same. (let within = slice_get_within texts place same.0 same.1 in so_far.back place (omega (arith, within, past)) same),
)
