-- The edges of a word's places, one more at a time.
use Rattle.std.proofs.Common.{◌≡◌, ◌↔◌, ◌<◌, ◌≤◌, ◌+◌, ℕ, List, [], ◌∷◌, ◌++◌, length, Some, refl, sym, ap, subst, ◌∙◌, arith, inl, inr, slice_get}
use Rattle.std.proofs.lemmas.List.Elements.{Contains-push_cases, Contains-append_left, Contains-append_right}
use Rattle.std.proofs.lemmas.Bool.{cases_lt}
use Rattle.std.proofs.lemmas.Option.{slice_get_within}
use Rattle.std.specs.List.{Contains}
use Rattle.word_relations.proofs.Members.{Contains-head}
use Rattle.word_relations.proofs.Places.{same_at}
use Rattle.fsa.specs.declared.automaton.Edge.{Edge}
use Rattle.network_algebra.specs.Words.{IsStep}

pub step_more : {L : Type 0} (word : List L) (place : ℕ) (pair : L) (old new : List (Edge L)) → slice_get word place ≡ Some pair → new ≡ old ++ record { from = place; letter = Some pair; to = place + 1 } ∷ []
    → ((e : Edge L) → Contains old e ↔ (IsStep word e × (e.from < place))) → (e : Edge L) → Contains new e ↔ (IsStep word e × (e.from < place + 1))
step_more {L} word place pair old new at is before e = (there, back)
  where
    last : Edge L
    last = record { from = place; letter = Some pair; to = place + 1 }

    there : Contains new e → IsStep word e × (e.from < place + 1)
    there has =
        elim (Contains-push_cases old last e (subst (λ (z : List (Edge L)). Contains z e) is has)) as (λ _. IsStep word e × (e.from < place + 1)) [
          | inl h ↦ let step = (before e).0 h in (step.0, omega (arith, step.1))
          | inr same ↦ subst (λ (e : Edge L). IsStep word e × (e.from < place + 1)) same ((pair, at, refl, refl), omega arith)
        ]

    same_edge : (x : L) → slice_get word e.from ≡ Some x → e.letter ≡ Some x → e.to ≡ e.from + 1 → e.from ≡ place → last ≡ e
    same_edge x here letter to from =
        let pair_is : pair ≡ x = same_at word place pair x at (subst (λ k. slice_get word k ≡ Some x) from here) in
        let to_is : place + 1 ≡ e.to = omega (arith, to, from) in
        let letter_is : Some pair ≡ e.letter = ap Some pair_is ∙ sym letter in
        subst (λ (k : ℕ). last ≡ record { from = k; letter = e.letter; to = e.to }) (sym from)
        (subst (λ l. last ≡ record { from = place; letter = l; to = e.to }) letter_is
        (subst (λ (k : ℕ). last ≡ record { from = place; letter = Some pair; to = k }) to_is refl))

    back : IsStep word e × (e.from < place + 1) → Contains new e
    back ((x, here, letter, to), below) =
        subst (λ (z : List (Edge L)). Contains z e) (sym is)
        (elim (cases_lt e.from place) as (λ _. Contains (old ++ last ∷ []) e) [
          | inl less ↦ Contains-append_left old (last ∷ []) e ((before e).1 ((x, here, letter, to), less))
          | inr not_less ↦
              let from : e.from ≡ place = omega (arith, below, not_less) in
              subst (λ (z : Edge L). Contains (old ++ last ∷ []) z) (same_edge x here letter to from) (Contains-append_right old (last ∷ []) last (Contains-head last []))
        ])

-- all places are done
pub steps_all : {L : Type 0} (word : List L) (place : ℕ) (edges : List (Edge L)) → length word ≤ place → ((e : Edge L) → Contains edges e ↔ (IsStep word e × (e.from < place))) → (e : Edge L) → Contains edges e ↔ IsStep word e
steps_all word place edges all before e =
    (λ has. ((before e).0 has).0, λ (x, here, letter, to). (before e).1 ((x, here, letter, to), omega (arith, all, slice_get_within word e.from x here)))
