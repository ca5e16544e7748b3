-- What keeps marks and a list of numbers together.
use Rattle.std.proofs.Common.{◌≡◌, ℕ, zero, suc, ◌+◌, ◌<◌, ◌≤◌, List, [], ◌∷◌, ◌++◌, Bool, true, false, cond, Some, length, get_or, set, drop, count_by, sum_by, replicate, refl, subst, sym, ap, inl, inr, arith, ◌∙◌}
use Rattle.std.specs.List.{slice_get, Contains}
use Rattle.std.proofs.lemmas.Option.{slice_get_within, get_or_from_slice_get}
use Rattle.std.proofs.lemmas.List.{length_push, drop_more, drop_all}
use Rattle.std.proofs.lemmas.List.Elements.{Contains-push_cases, Contains-push, Contains-append_left, Contains-get_or}
use Rattle.std.proofs.lemmas.List.Sums.{count_by-le-length, sum_by-set}
use Rattle.std.proofs.lemmas.Bool.{cases_eq}
use Rattle.word_relations.proofs.Members.{Contains-nil_cases, Contains-cons_cases}
use Rattle.word_relations.proofs.Places.{slice_get-set_same, slice_get-set_other}
use Rattle.fsa_explore.specs.Marks.{IsBounded}
use Rattle.fsa_explore.specs.Marking.{IsMarking}

all_unmarked : (n k : ℕ) → slice_get (replicate n false) k ≡ Some true → ⊥
all_unmarked zero k e = cc
all_unmarked (suc n) zero e = cc
all_unmarked (suc n) (suc k) e = all_unmarked n k e

count-unmarked : (marks : List Bool) → ((k : ℕ) → slice_get marks k ≡ Some true → ⊥) → count_by (λ b. b) marks ≡ 0
count-unmarked [] no_mark = refl
count-unmarked (true ∷ marks) no_mark = absurd (no_mark 0 refl)
count-unmarked (false ∷ marks) no_mark = let rest = count-unmarked marks (λ k. no_mark (suc k)) in omega arith

count-set_true : (marks : List Bool) (k : ℕ) → slice_get marks k ≡ Some false → count_by (λ b. b) (set marks k true) ≡ count_by (λ b. b) marks + 1
count-set_true marks k e =
    let one : Bool → ℕ = λ b. cond b 1 0 in
    let was : get_or marks k false ≡ false = get_or_from_slice_get marks k false false e in
    let moved : sum_by one (set marks k true) + one (get_or marks k false) ≡ sum_by one marks + 1 = sum_by-set one marks k true false (slice_get_within marks k false e) in
    let was_none : one (get_or marks k false) ≡ 0 = ap one was in
    omega arith

pub IsMarking-none : (marks : List Bool) → ((k : ℕ) → slice_get marks k ≡ Some true → ⊥) → IsMarking marks []
IsMarking-none marks no_mark = record {
  marked = λ k h. absurd (Contains-nil_cases k h);
  only = λ k e. absurd (no_mark k e);
  count = sym (count-unmarked marks no_mark);
}

pub IsMarking-new : (n : ℕ) → IsMarking (replicate n false) []
IsMarking-new n = IsMarking-none (replicate n false) (all_unmarked n)

pub IsMarking-add : (marks : List Bool) (found : List ℕ) (k : ℕ) → IsMarking marks found → slice_get marks k ≡ Some false → IsMarking (set marks k true) (found ++ k ∷ [])
IsMarking-add marks found k m free =
    let within : k < length marks = slice_get_within marks k false free in
    record {
      marked = λ j h. elim (cases_eq j k) [
        | inl same ↦ subst (λ i. slice_get (set marks k true) i ≡ Some true) (sym same) (slice_get-set_same marks k true within)
        | inr other ↦ elim (Contains-push_cases found k j h) [
          | inl old ↦ slice_get-set_other marks k j true other ∙ m.marked j old
          | inr same ↦ absurd (other (sym same))
        ]
      ];
      only = λ j e. elim (cases_eq j k) [
        | inl same ↦ subst (λ i. Contains (found ++ k ∷ []) i) (sym same) (Contains-push found k)
        | inr other ↦ Contains-append_left found (k ∷ []) j (m.only j (sym (slice_get-set_other marks k j true other) ∙ e))
      ];
      count = let long = length_push found k in let more = count-set_true marks k free in let old : length found ≡ count_by (λ b. b) marks = m.count in omega arith;
    }

pub IsMarking-bounded : (marks : List Bool) (found : List ℕ) → IsMarking marks found → IsBounded (record { bound = length marks; found = found })
IsMarking-bounded marks found m = record {
  within = λ i d l. slice_get_within marks (get_or found i d) true (m.marked (get_or found i d) (Contains-get_or found i d l));
  few = let le = count_by-le-length (λ b. b) marks in let is : length found ≡ count_by (λ b. b) marks = m.count in omega arith;
}

-- what is left to unmark
pub unmarked_more : (marks : List Bool) (numbers : List ℕ) (i n : ℕ) → i < length numbers → n ≡ get_or numbers i n → n < length marks → ((k : ℕ) → slice_get marks k ≡ Some true → Contains (drop i numbers) k) → (k : ℕ) → slice_get (set marks n false) k ≡ Some true → Contains (drop (i + 1) numbers) k
unmarked_more marks numbers i n within is inside left k e =
    elim (cases_eq k n) [
      | inl same ↦
          let now : slice_get (set marks n false) k ≡ Some false = subst (λ j. slice_get (set marks n false) j ≡ Some false) (sym same) (slice_get-set_same marks n false inside) in
          let clash : Some true ≡ Some false = sym e ∙ now in absurd (cc)
      | inr other ↦
          let old : Contains (drop i numbers) k = left k (sym (slice_get-set_other marks n k false other) ∙ e) in
          let rest : drop i numbers ≡ n ∷ drop (i + 1) numbers = drop_more numbers i n within ∙ ap (λ y. y ∷ drop (i + 1) numbers) (sym is) in
          elim (Contains-cons_cases n (drop (i + 1) numbers) k (subst (λ ys. Contains ys k) rest old)) [
            | inl same ↦ absurd (other (sym same))
            | inr tail ↦ tail
          ]
    ]

pub unmarked_all : (marks : List Bool) (numbers : List ℕ) (i : ℕ) → length numbers ≤ i → ((k : ℕ) → slice_get marks k ≡ Some true → Contains (drop i numbers) k) → IsMarking marks []
unmarked_all marks numbers i past left =
    IsMarking-none marks (λ k e. Contains-nil_cases k (subst (λ ys. Contains ys k) (drop_all i numbers past) (left k e)))
