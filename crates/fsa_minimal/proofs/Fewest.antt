-- An automaton has the fewest states where each is reached and any two are apart: the words by which its states are
-- reached lead to different states of every other automaton of the language.
use Rattle.std.proofs.Common.{◌≡◌, ◌≢◌, ℕ, zero, suc, ◌+◌, ◌*◌, ◌<◌, ◌≤◌, ◌↔◌, List, [], ◌∷◌, ◌++◌, Some, length, cond, eqb, refl, sym, subst, inl, inr, arith}
use Rattle.std.specs.List.{slice_get}
use Rattle.std.proofs.lemmas.Bool.{cases_lt}
use Rattle.std.proofs.lemmas.Bool.Decides.{nat_tests}
use Rattle.std.proofs.lemmas.Option.{slice_get_within, get_or_from_slice_get}
use Rattle.fsa.specs.Complete.{Complete, IsComplete, AcceptsFrom, Accepts, read, next_state}
use Rattle.fsa.proofs.Paths.{read_back}
use Rattle.fsa_minimal.proofs.Images.{leads_somewhere}
use Rattle.fsa_minimal.specs.Fewest.{HasFewest, AreApart, Leads, here, along, AreReachedBelow}

-- numbers below a bound that are given different numbers below a second bound are no more than that
pub few_places : (m n : ℕ) (f : ℕ → ℕ) → ((i : ℕ) → i < n → f i < m) → ((i j : ℕ) → i < n → j < n → f i ≡ f j → i ≡ j) → n ≤ m
few_places zero zero f below one = omega arith
few_places zero (suc n) f below one = let b = below n (omega arith) in absurd (omega arith)
few_places (suc m) zero f below one = omega arith
few_places (suc m) (suc n) f below one =
    let g : ℕ → ℕ = λ i. cond (eqb (f i) m) (f n) (f i) in
    let rest : n ≤ m = few_places m n g
    (λ i l. let b = below i (omega arith) in let e = below n (omega arith) in let o = one i n (omega arith) (omega arith) in grind (arith, nat_tests))
    (λ i j k l same. let o = one i j (omega arith) (omega arith) in let p = one i n (omega arith) (omega arith) in let q = one j n (omega arith) (omega arith) in grind (arith, nat_tests)) in
    omega arith

-- what stands at a place
pub at_place : {X : Type 0} (xs : List X) (k : ℕ) → k < length xs → (x : X) × (slice_get xs k ≡ Some x)
at_place [] k l = absurd (omega arith)
at_place (x ∷ xs) zero l = (x, refl)
at_place (x ∷ xs) (suc k) l = at_place xs k (omega arith)

abbrev AreReachedBelow-at : {L : Type 0} → Complete L → ℕ → Type 0
AreReachedBelow-at {L} d i = (w : List L) × Leads d 0 w i

-- two numbers that aren't different are the same
pub same_or : (i j : ℕ) → (i ≢ j → ⊥) → i ≡ j
same_or i j never = elim (cases_lt i j) [
  | inl l ↦ absurd (never (λ e. absurd (omega arith)))
  | inr past ↦ elim (cases_lt j i) [ inl l ↦ absurd (never (λ e. absurd (omega arith))) | inr back ↦ omega arith ]
]

-- the letter at a place leads from a state that is there to one that is there
pub next_there : {L : Type 0} (d : Complete L) → IsComplete d → (s k : ℕ) → s < length d.finals → k < length d.letters → (t : ℕ) × (next_state d s k ≡ Some t) × (t < length d.finals)
next_there d ok s k state place =
    let t = leads_somewhere d ok s k state place in
    let i : ℕ = s * length d.letters + k in
    let w = slice_get_within d.next i t.0 t.1 in
    (t.0, t.1, subst (λ u. u < length d.finals) (get_or_from_slice_get d.next i t.0 0 t.1) (ok.within i 0 w))

module _ {L : Type 0} (d : Complete L) (ok : IsComplete d) where
  pub leads_on : {s t : ℕ} {w : List L} (v : List L) → Leads d s w t → AcceptsFrom d t v → AcceptsFrom d s (w ++ v)
  leads_on v here h = h
  leads_on v (along k at go rest) h = read k at go (leads_on v rest h)

  pub leads_back : {s t : ℕ} {w : List L} (v : List L) → Leads d s w t → AcceptsFrom d s (w ++ v) → AcceptsFrom d t v
  leads_back v here h = h
  leads_back {s} v (along {t = t} {x = x} {w = w} k at go rest) h = leads_back v rest (read_back d ok.distinct s t k x (w ++ v) at go h)

  -- a letter more at the end
  pub leads_more : {s t u : ℕ} {w : List L} (k : ℕ) (x : L) → slice_get d.letters k ≡ Some x → next_state d t k ≡ Some u → Leads d s w t → Leads d s (w ++ x ∷ []) u
  leads_more k x at go here = along k at go here
  leads_more k x at go (along j at' go' rest) = along j at' go' (leads_more k x at go rest)

  -- where a letter leads two states to states that are apart, these are apart
  pub apart_by : (s t k : ℕ) (x : L) (u v : ℕ) → slice_get d.letters k ≡ Some x → next_state d s k ≡ Some u → next_state d t k ≡ Some v → AreApart d u v → AreApart d s t
  apart_by s t k x u v at go_s go_t (w, way) = (
    x ∷ w,
    elim way [
      | inl h ↦ inl (read k at go_s h.0, λ r. h.1 (read_back d ok.distinct t v k x w at go_t r))
      | inr h ↦ inr (λ r. h.0 (read_back d ok.distinct s u k x w at go_s r), read k at go_t h.1)
    ],
  )

pub apart_back : {L : Type 0} (d : Complete L) (s t : ℕ) → AreApart d s t → AreApart d t s
apart_back d s t (w, way) = (w, elim way [ inl h ↦ inr (h.1, h.0) | inr h ↦ inl (h.1, h.0) ])

-- one more state is reached, by a letter from one that is reached
pub reached_more : {L : Type 0} (d : Complete L) → IsComplete d → (state place bound : ℕ) → place < length d.letters → state < bound → next_state d state place ≡ Some bound → AreReachedBelow d bound → AreReachedBelow d (bound + 1)
reached_more d ok state place bound inside before goes reached i l = elim (cases_lt i bound) [
  | inl old ↦ reached i old
  | inr past ↦
      let this : i ≡ bound = omega arith in
      let r = reached state before in
      let x = at_place d.letters place inside in
      subst (AreReachedBelow-at d) (sym this) (r.0 ++ x.0 ∷ [], leads_more d ok place x.0 x.1 goes r.1)
]

-- the start is reached by the empty word
pub reached_start : {L : Type 0} (d : Complete L) → AreReachedBelow d 1
reached_start d i l = let this : i ≡ 0 = omega arith in subst (AreReachedBelow-at d) (sym this) ([], here)

module _ {L : Type 0} (d : Complete L) (ok : IsComplete d) (reached : AreReachedBelow d (length d.finals))
    (apart : (i j : ℕ) → i < length d.finals → j < length d.finals → i ≢ j → AreApart d i j)
    (other : Complete L) (other_ok : IsComplete other) (letters : other.letters ≡ d.letters) (same : (w : List L) → Accepts other w ↔ Accepts d w) where
  -- the word leads to a state of the other automaton too
  follow : {s t : ℕ} {w : List L} → Leads d s w t → (p : ℕ) → p < length other.finals → (q : ℕ) × (q < length other.finals) × Leads other p w q
  follow here p there = (p, there, here)
  follow (along {x = x} k at go rest) p there =
      let letter : slice_get other.letters k ≡ Some x = subst (λ ls. slice_get ls k ≡ Some x) (sym letters) at in
      let n = next_there other other_ok p k there (slice_get_within other.letters k x letter) in
      let r = follow rest n.0 n.2 in
      (r.0, r.1, along k letter n.1 r.2)

  -- the state of the other automaton for each state
  image : (i : ℕ) → (q : ℕ) × (q < length other.finals) × (i < length d.finals → (w : List L) × Leads d 0 w i × Leads other 0 w q)
  image i = elim (cases_lt i (length d.finals)) [
    | inl l ↦ let r = reached i l in let f = follow r.1 0 other_ok.start in (f.0, f.1, λ _. (r.0, r.1, f.2))
    | inr past ↦ (0, other_ok.start, λ l. absurd (omega arith))
  ]

  -- a word is accepted from a state where it is from the other automaton's state
  across : (i : ℕ) (l : i < length d.finals) (v : List L) → AcceptsFrom d i v ↔ AcceptsFrom other (image i).0 v
  across i l v =
      let p = (image i).2 l in (
        λ h. leads_back other other_ok v p.2 ((same (p.0 ++ v)).1 (leads_on d ok v p.1 h)),
        λ h. leads_back d ok v p.1 ((same (p.0 ++ v)).0 (leads_on other other_ok v p.2 h)),
      )

  not_apart : (i j : ℕ) → i < length d.finals → j < length d.finals → (image i).0 ≡ (image j).0 → AreApart d i j → ⊥
  not_apart i j l k e (w, way) = elim way [
    | inl h ↦ h.1 ((across j k w).1 (subst (λ q. AcceptsFrom other q w) e ((across i l w).0 h.0)))
    | inr h ↦ h.0 ((across i l w).1 (subst (λ q. AcceptsFrom other q w) (sym e) ((across j k w).0 h.1)))
  ]

  fewest_of : length d.finals ≤ length other.finals
  fewest_of = few_places (length other.finals) (length d.finals) (λ i. (image i).0) (λ i _. (image i).1)
      (λ i j l k e. same_or i j (λ ne. not_apart i j l k e (apart i j l k ne)))

pub fewest : {L : Type 0} (d : Complete L) → IsComplete d → AreReachedBelow d (length d.finals) → ((i j : ℕ) → i < length d.finals → j < length d.finals → i ≢ j → AreApart d i j) → HasFewest d
fewest d ok reached apart = record { least = λ other other_ok letters same. fewest_of d ok reached apart other other_ok letters same }
