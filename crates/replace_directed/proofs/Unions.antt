-- Automata that are united one by one.
use Rattle.std.proofs.Common.{◌≡◌, ◌↔◌, ◌⊎◌, ℕ, ◌+◌, ◌<◌, List, [], ◌∷◌, ◌++◌, false, true, Some, sym, subst, inl, inr, arith}
use Rattle.std.specs.List.{Contains}
use Rattle.std.proofs.lemmas.Bool.{cases_lt}
use Rattle.std.proofs.lemmas.List.Elements.{Contains-append_left, Contains-append_right, Contains-append_cases}
use Rattle.word_relations.proofs.Members.{Contains-nil_cases, Contains-cons_cases, Contains-head}
use Rattle.fsa.specs.Automaton.{Automaton}
use Rattle.fsa.specs.Language.{AcceptsFrom, Accepts, stop, read, skip}

abbrev alone : {L : Type 0} → Automaton L
alone {L} = record { edges = []; finals = false ∷ [] }

alone_from : {L : Type 0} {w : List L} → AcceptsFrom (alone {L = L}) 0 w → ⊥
alone_from (stop h) = let e : Some false ≡ Some true = h in cc
alone_from (read {q = q} {x = x} c rest) = Contains-nil_cases (record { from = 0; letter = Some x; to = q }) c
alone_from (skip {q = q} c rest) = Contains-nil_cases _ c

-- the automaton of one state accepts nothing
pub nothing : {L : Type 0} (m : Automaton L) → m ≡ record { edges = []; finals = false ∷ [] } → (w : List L) → Accepts m w → ⊥
nothing m is w h = alone_from (subst (λ a. Accepts a w) is h)

module _ {X L : Type 0} (Q : X → List L → Type 0) where
  abbrev pub SomeOf : List X → List L → Type 0
  SomeOf xs v = (x : X) × Contains xs x × Q x v

  pub some_none : (m : Automaton L) → m ≡ record { edges = []; finals = false ∷ [] } → (v : List L) → Accepts m v ↔ SomeOf [] v
  some_none m is v = (λ h. absurd (nothing m is v h), λ h. absurd (Contains-nil_cases h.0 h.1))

  pub some_more : (xs : List X) (front : List X) (x : X) (old more new : Automaton L) → xs ≡ front ++ x ∷ [] → ((v : List L) → Accepts old v ↔ SomeOf front v) → ((v : List L) → Accepts more v ↔ Q x v) → ((v : List L) → Accepts new v ↔ (Accepts old v ⊎ Accepts more v)) → (v : List L) → Accepts new v ↔ SomeOf xs v
  some_more xs front x old more new is before here both v = (
    λ h. elim ((both v).0 h) as (λ _. SomeOf xs v) [
      | inl was ↦ let r = (before v).0 was in (r.0, subst (λ ys. Contains ys r.0) (sym is) (Contains-append_left front (x ∷ []) r.0 r.1), r.2)
      | inr now ↦ (x, subst (λ ys. Contains ys x) (sym is) (Contains-append_right front (x ∷ []) x (Contains-head x [])), (here v).0 now)
    ],
    λ h. (both v).1 (elim (Contains-append_cases front (x ∷ []) h.0 (subst (λ ys. Contains ys h.0) is h.1)) as (λ _. Accepts old v ⊎ Accepts more v) [
      | inl was ↦ inl ((before v).1 (h.0, was, h.2))
      | inr now ↦ elim (Contains-cons_cases x [] h.0 now) as (λ _. Accepts old v ⊎ Accepts more v) [
        | inl same ↦ inr ((here v).1 (subst (λ y. Q y v) (sym same) h.2))
        | inr none ↦ absurd (Contains-nil_cases h.0 none)
      ]
    ]),
  )

  pub some_all : (xs front : List X) (m : Automaton L) → front ≡ xs → ((v : List L) → Accepts m v ↔ SomeOf front v) → (v : List L) → Accepts m v ↔ SomeOf xs v
  some_all xs front m is before v = subst (λ ys. Accepts m v ↔ SomeOf ys v) is (before v)

-- automata of numbers, united one by one
module _ {L : Type 0} (Q : ℕ → List L → Type 0) where
  abbrev pub Below : ℕ → List L → Type 0
  Below n v = (k : ℕ) × (k < n) × Q k v

  pub below_none : (m : Automaton L) → m ≡ record { edges = []; finals = false ∷ [] } → (v : List L) → Accepts m v ↔ Below 0 v
  below_none m is v = (λ h. absurd (nothing m is v h), λ h. let l : h.0 < 0 = h.1 in absurd (omega (arith, l)))

  pub below_more : (i : ℕ) (old more new : Automaton L) → ((v : List L) → Accepts old v ↔ Below i v) → ((v : List L) → Accepts more v ↔ Q i v) → ((v : List L) → Accepts new v ↔ (Accepts old v ⊎ Accepts more v)) → (v : List L) → Accepts new v ↔ Below (i + 1) v
  below_more i old more new before here both v = (
    λ h. elim ((both v).0 h) as (λ _. Below (i + 1) v) [
      | inl was ↦ let r = (before v).0 was in let l : r.0 < i = r.1 in (r.0, omega (arith, l), r.2)
      | inr now ↦ (i, omega arith, (here v).0 now)
    ],
    λ (k, l, there). (both v).1 (elim (cases_lt k i) as (λ _. Accepts old v ⊎ Accepts more v) [
      | inl less ↦ inl ((before v).1 (k, less, there))
      | inr greater ↦ let same : k ≡ i = omega (arith, l, greater) in inr ((here v).1 (subst (λ j. Q j v) same there))
    ]),
  )
