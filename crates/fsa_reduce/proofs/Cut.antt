-- An automaton without its last state, which isn't final.
use Rattle.std.proofs.Common.{◌≡◌, ℕ, zero, suc, ◌+◌, ◌<◌, ◌≤◌, ◌↔◌, List, [], ◌∷◌, Bool, true, false, Some, None, length, take, refl, sym, ap, subst, inl, inr, arith, ◌∙◌}
use Rattle.std.specs.List.{Contains, slice_get}
use Rattle.std.proofs.lemmas.Bool.{cases_lt}
use Rattle.std.proofs.lemmas.Option.{slice_get_within}
use Rattle.word_relations.proofs.Members.{Contains-nil_cases}
use Rattle.word_relations.proofs.Places.{same_at}
use Rattle.fsa.specs.Automaton.{Automaton, UsesLetter}
use Rattle.fsa.specs.Language.{AcceptsFrom, Accepts, stop, read, skip}
use Rattle.fsa.specs.declared.automaton.Edge.{Edge}
use Rattle.fsa_rational.specs.Shapes.{Extends}

taken_from : {X : Type 0} (n : ℕ) (xs : List X) (k : ℕ) (x : X) → slice_get (take n xs) k ≡ Some x → slice_get xs k ≡ Some x
taken_from zero xs k x e = absurd (cc)
taken_from (suc n) [] k x e = e
taken_from (suc n) (y ∷ xs) zero x e = e
taken_from (suc n) (y ∷ xs) (suc k) x e = taken_from n xs k x e

taken_at : {X : Type 0} (n : ℕ) (xs : List X) (k : ℕ) (x : X) → k < n → slice_get xs k ≡ Some x → slice_get (take n xs) k ≡ Some x
taken_at zero xs k x l e = absurd (omega arith)
taken_at (suc n) [] k x l e = e
taken_at (suc n) (y ∷ xs) zero x l e = e
taken_at (suc n) (y ∷ xs) (suc k) x l e = taken_at n xs k x (omega arith) e

pub not_final : (finals : List Bool) (k : ℕ) → k < length finals → (slice_get finals k ≡ Some true → ⊥) → slice_get finals k ≡ Some false
not_final [] k l never = absurd (omega arith)
not_final (true ∷ bs) zero l never = absurd (never refl)
not_final (false ∷ bs) zero l never = refl
not_final (b ∷ bs) (suc k) l never = not_final bs k (omega arith) never

module _ {L : Type 0} (a start m : Automaton L) (last : ℕ) (count : length a.finals ≤ last + 1) (other : slice_get a.finals last ≡ Some false) (begins : start ≡ record { edges = []; finals = take last a.finals }) (made : Extends start m (Contains a.edges)) where
  finals_are : m.finals ≡ take last a.finals
  finals_are = made.finals ∙ ap (λ n. n.finals) begins

  edge_down : (e : Edge L) → Contains m.edges e → Contains a.edges e
  edge_down e h = elim (made.only e h) [
    | inl held ↦ absurd (Contains-nil_cases e (subst (λ es. Contains es e) (ap (λ n. n.edges) begins) held))
    | inr r ↦ r
  ]

  cut_down : {s : ℕ} {w : List L} → AcceptsFrom m s w → AcceptsFrom a s w
  cut_down {s} (stop h) = stop (taken_from last a.finals s true (subst (λ fs. slice_get fs s ≡ Some true) finals_are h))
  cut_down {s} (read {q = q} {x = x} c rest) = read (edge_down (record { from = s; letter = Some x; to = q }) c) (cut_down rest)
  cut_down {s} (skip {q = q} c rest) = skip (edge_down (record { from = s; letter = None; to = q }) c) (cut_down rest)

  is_before : (s : ℕ) → slice_get a.finals s ≡ Some true → s < last
  is_before s h = elim (cases_lt s last) [
    | inl l ↦ l
    | inr g ↦
        let within = slice_get_within a.finals s true h in
        let same : s ≡ last = omega arith in
        let clash : true ≡ false = same_at a.finals last true false (subst (λ k. slice_get a.finals k ≡ Some true) same h) other in
        absurd (cc)
  ]

  cut_up : {s : ℕ} {w : List L} → AcceptsFrom a s w → AcceptsFrom m s w
  cut_up {s} (stop h) = stop (subst (λ fs. slice_get fs s ≡ Some true) (sym finals_are) (taken_at last a.finals s true (is_before s h) h))
  cut_up {s} (read {q = q} {x = x} c rest) = read (made.all (record { from = s; letter = Some x; to = q }) c) (cut_up rest)
  cut_up {s} (skip {q = q} c rest) = skip (made.all (record { from = s; letter = None; to = q }) c) (cut_up rest)

  pub cut_letters : (x : L) → UsesLetter m x → UsesLetter a x
  cut_letters x (e, c, is) = (e, edge_down e c, is)

  pub cut_language : (w : List L) → Accepts m w ↔ Accepts a w
  cut_language w = (cut_down, cut_up)
