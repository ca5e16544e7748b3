-- The classes that have a final state, state by state.
use Rattle.std.proofs.Common.{◌≡◌, ℕ, ◌+◌, ◌<◌, ◌≤◌, ◌↔◌, List, Bool, true, false, replicate, Some, length, set, sym, ap, subst, inl, inr, arith, ◌∙◌}
use Rattle.std.specs.List.{slice_get}
use Rattle.std.proofs.lemmas.Bool.{cases_eq}
use Rattle.std.proofs.lemmas.List.{length-set, length-replicate}
use Rattle.std.proofs.lemmas.Option.{slice_get_within}
use Rattle.word_relations.proofs.Places.{same_at, slice_get-set_same, slice_get-set_other}
use Rattle.fsa_rational.proofs.Walks.{unmarked_states}
use Rattle.fsa_explore.proofs.Grouping.{last_or_before}

-- a state before this one is final and in the class
abbrev pub HasFinalBefore : List Bool → List ℕ → ℕ → ℕ → Type 0
HasFinalBefore finals classes upto k = (s : ℕ) × (s < upto) × (slice_get classes s ≡ Some k) × (slice_get finals s ≡ Some true)

pub record AreMergedFinals (finals : List Bool) (classes : List ℕ) (count upto : ℕ) (merged : List Bool) : Type 0 where
  pub count_is : length merged ≡ count
  pub final : (k : ℕ) → slice_get merged k ≡ Some true ↔ HasFinalBefore finals classes upto k

module _ (finals : List Bool) (classes : List ℕ) (count : ℕ) where
  pub merged_none : (merged : List Bool) → merged ≡ replicate count false → AreMergedFinals finals classes count 0 merged
  merged_none merged is = record {
    count_is = ap length is ∙ length-replicate count false;
    final = λ k. (
      λ h. absurd (unmarked_states count k (subst (λ xs. slice_get xs k ≡ Some true) is h)),
      λ r. let l = r.1 in absurd (omega arith),
    );
  }

  pub merged_more : (i k : ℕ) (merged : List Bool) → slice_get finals i ≡ Some true → slice_get classes i ≡ Some k → k < count → AreMergedFinals finals classes count i merged → AreMergedFinals finals classes count (i + 1) (set merged k true)
  merged_more i k merged is_final at inside before = record {
    count_is = length-set merged k true ∙ before.count_is;
    final = λ j. (
      λ h. elim (cases_eq j k) [
        | inl same ↦ (i, omega arith, at ∙ ap Some (sym same), is_final)
        | inr other ↦
            let r = (before.final j).0 (sym (slice_get-set_other merged k j true other) ∙ h) in
            let l = r.1 in (r.0, omega arith, r.2, r.3)
      ],
      λ r. elim (cases_eq j k) [
        | inl same ↦
            let c = before.count_is in
            let l : k < length merged = omega arith in
            subst (λ x. slice_get (set merged k true) x ≡ Some true) (sym same) (slice_get-set_same merged k true l)
        | inr other ↦ slice_get-set_other merged k j true other ∙ elim (last_or_before i r.0 r.1) [
          | inl b ↦ (before.final j).1 (r.0, b, r.2, r.3)
          | inr last ↦ absurd (other (same_at classes i j k (subst (λ x. slice_get classes x ≡ Some j) last r.2) at))
        ]
      ],
    );
  }

  pub merged_past : (i : ℕ) (merged : List Bool) → slice_get finals i ≡ Some false → AreMergedFinals finals classes count i merged → AreMergedFinals finals classes count (i + 1) merged
  merged_past i merged is_final before = record {
    count_is = before.count_is;
    final = λ j. (
      λ h. let r = (before.final j).0 h in let l = r.1 in (r.0, omega arith, r.2, r.3),
      λ r. elim (last_or_before i r.0 r.1) [
        | inl b ↦ (before.final j).1 (r.0, b, r.2, r.3)
        | inr last ↦
            let clash : true ≡ false = same_at finals i true false (subst (λ x. slice_get finals x ≡ Some true) last r.3) is_final in
            absurd (cc)
      ],
    );
  }

  pub merged_all : (i : ℕ) (merged : List Bool) → length finals ≤ i → AreMergedFinals finals classes count i merged → (k : ℕ) → slice_get merged k ≡ Some true ↔ ((s : ℕ) × (slice_get classes s ≡ Some k) × (slice_get finals s ≡ Some true))
  merged_all i merged past before k = (
    λ h. let r = (before.final k).0 h in (r.0, r.2, r.3),
    λ r. let l = slice_get_within finals r.0 true r.2 in (before.final k).1 (r.0, omega arith, r.1, r.2),
  )
