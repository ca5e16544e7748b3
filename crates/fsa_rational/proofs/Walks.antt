-- Paths of an automaton: what follows from each step, and the same path among the states of another.
use Rattle.std.proofs.Common.{◌≡◌, ℕ, zero, suc, ◌+◌, ◌<◌, ◌≤◌, ◌↔◌, List, [], ◌∷◌, ◌++◌, Option, Some, None, true, false, replicate, set, length, sym, inl, inr, arith, ◌∙◌}
use Rattle.std.specs.Option.{option_to_list}
use Rattle.std.specs.List.{Contains, slice_get}
use Rattle.std.specs.List.Sorted.{IsPermutation}
use Rattle.std.proofs.lemmas.List.Sorted.{Contains-permutation, IsPermutation-sym}
use Rattle.std.proofs.lemmas.Option.{slice_get_within}
use Rattle.std.proofs.lemmas.Bool.{cases_eq}
use Rattle.std.proofs.lemmas.List.{length_push, length-replicate}
use Rattle.word_relations.proofs.Places.{slice_get-set_same, slice_get-set_other, slice_get-append_cases}
use Rattle.fsa.specs.Automaton.{Automaton, IsFinal, IsWellFormed}
use Rattle.fsa.specs.Language.{AcceptsFrom, stop, read, skip}
use Rattle.fsa.specs.declared.automaton.Edge.{Edge}
use Rattle.fsa_rational.specs.Shapes.{shifted, FitsBelow}

-- what the automaton accepts from each state is the least that holds at final states and is kept by each edge
pub AcceptsFrom-least : {L : Type 0} (m : Automaton L) (P : ℕ → List L → Type 0) → ((q : ℕ) → IsFinal m q → P q []) → ((e : Edge L) (w : List L) → Contains m.edges e → P e.to w → P e.from (option_to_list e.letter ++ w)) → {p : ℕ} {w : List L} → AcceptsFrom m p w → P p w
AcceptsFrom-least m P final step {p} (stop h) = final p h
AcceptsFrom-least m P final step {p} (read {q = q} {x = x} {w = w} h rest) =
    step (record { from = p; letter = Some x; to = q }) w h (AcceptsFrom-least m P final step rest)
AcceptsFrom-least m P final step {p} (skip {q = q} {w = w} h rest) =
    step (record { from = p; letter = None; to = q }) w h (AcceptsFrom-least m P final step rest)

step_by : {L : Type 0} (m : Automaton L) (p q : ℕ) (letter : Option L) (w : List L) → Contains m.edges (record { from = p; letter = letter; to = q }) → AcceptsFrom m q w → AcceptsFrom m p (option_to_list letter ++ w)
step_by m p q (Some x) w h rest = read h rest
step_by m p q None w h rest = skip h rest

-- one edge, and then what is accepted from its end
pub AcceptsFrom-step : {L : Type 0} (m : Automaton L) (e : Edge L) (w : List L) → Contains m.edges e → AcceptsFrom m e.to w → AcceptsFrom m e.from (option_to_list e.letter ++ w)
AcceptsFrom-step m e w h rest = step_by m e.from e.to e.letter w h rest

-- a state from which something is accepted is there
pub AcceptsFrom-within : {L : Type 0} (m : Automaton L) → IsWellFormed m → {p : ℕ} {w : List L} → AcceptsFrom m p w → p < length m.finals
AcceptsFrom-within m ok {p} (stop h) = slice_get_within m.finals p true h
AcceptsFrom-within m ok {p} (read {q = q} {x = x} h rest) = (ok.within (record { from = p; letter = Some x; to = q }) h).0
AcceptsFrom-within m ok {p} (skip {q = q} h rest) = (ok.within (record { from = p; letter = None; to = q }) h).0

-- the same path where each edge stands with its numbers raised, and then a word from where it ends
pub AcceptsFrom-moved : {L : Type 0} (a m : Automaton L) (by : ℕ) (v : List L) → ((e : Edge L) → Contains a.edges e → Contains m.edges (shifted by e)) → ((q : ℕ) → IsFinal a q → AcceptsFrom m (q + by) v) → {p : ℕ} {w : List L} → AcceptsFrom a p w → AcceptsFrom m (p + by) (w ++ v)
AcceptsFrom-moved a m by v edges final {p} (stop h) = final p h
AcceptsFrom-moved a m by v edges final {p} (read {q = q} {x = x} h rest) =
    read (edges (record { from = p; letter = Some x; to = q }) h) (AcceptsFrom-moved a m by v edges final rest)
AcceptsFrom-moved a m by v edges final {p} (skip {q = q} h rest) =
    skip (edges (record { from = p; letter = None; to = q }) h) (AcceptsFrom-moved a m by v edges final rest)

-- edges fit where there is room for the states
pub FitsBelow-from : {L : Type 0} (a : Automaton L) → IsWellFormed a → (by bound : ℕ) → length a.finals + by ≤ bound → FitsBelow a.edges by bound
FitsBelow-from a ok by bound room e h = let ends = ok.within e h in (omega arith, omega arith)

-- among states that aren't final none is
pub unmarked_states : (n k : ℕ) → slice_get (replicate n false) k ≡ Some true → ⊥
unmarked_states zero k e = cc
unmarked_states (suc n) zero e = cc
unmarked_states (suc n) (suc k) e = unmarked_states n k e

-- one state more, and of all of them one is final
pub one_final : (n at k : ℕ) → slice_get (set (replicate n false ++ false ∷ []) at true) k ≡ Some true → k ≡ at
one_final n at k e = elim (cases_eq k at) [
  | inl same ↦ same
  | inr other ↦
      let old : slice_get (replicate n false ++ false ∷ []) k ≡ Some true = sym (slice_get-set_other (replicate n false ++ false ∷ []) at k true other) ∙ e in
      absurd (elim (slice_get-append_cases (replicate n false) (false ∷ []) k true old) [ inl front ↦ unmarked_states n k front | inr r ↦ last r.0 r.2 ])
]
  where
    last : (j : ℕ) → slice_get (false ∷ []) j ≡ Some true → ⊥
    last zero f = cc
    last (suc j) f = cc

pub one_more_states : (n : ℕ) → length (replicate n false ++ false ∷ []) ≡ n + 1
one_more_states n = let long = length_push (replicate n false) false in let front = length-replicate n false in omega arith

pub is_final_set : (n at : ℕ) → at < n + 1 → slice_get (set (replicate n false ++ false ∷ []) at true) at ≡ Some true
is_final_set n at l = let long = one_more_states n in slice_get-set_same (replicate n false ++ false ∷ []) at true (omega arith)

-- a list and its permutation have the same elements
pub same_elements : {X : Type 0} (xs ys : List X) → IsPermutation xs ys → (x : X) → Contains ys x ↔ Contains xs x
same_elements xs ys moved x = (λ h. Contains-permutation ys xs x (IsPermutation-sym xs ys moved) h, λ h. Contains-permutation xs ys x moved h)

pub same_elements_then : {X : Type 0} (P : X → Type 0) (xs ys : List X) → IsPermutation xs ys → ((x : X) → Contains xs x ↔ P x) → (x : X) → Contains ys x ↔ P x
same_elements_then P xs ys moved is x =
    let same = same_elements xs ys moved x in
    (λ h. (is x).0 (same.0 h), λ p. same.1 ((is x).1 p))
