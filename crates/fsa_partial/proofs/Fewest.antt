-- A minimal automaton has the fewest states: the words by which its states are reached lead to different states of
-- each deterministic automaton of the language.
use Rattle.std.proofs.Common.{◌≡◌, ◌≢◌, ℕ, zero, suc, ◌<◌, ◌≤◌, ◌⊎◌, ◌↔◌, List, [], ◌∷◌, ◌++◌, Some, None, length, cond, eqb, sym, subst, inl, inr, arith}
use Rattle.std.specs.List.{Contains}
use Rattle.std.proofs.lemmas.Bool.{cases_lt}
use Rattle.std.proofs.lemmas.Bool.Decides.{nat_tests}
use Rattle.std.proofs.lemmas.Option.{none-some}
use Rattle.fsa.specs.Automaton.{Automaton, IsWellFormed}
use Rattle.fsa.specs.Language.{Accepts, AcceptsFrom, read, skip}
use Rattle.fsa_rational.proofs.Walks.{AcceptsFrom-within}
use Rattle.fsa_partial.specs.Minimal.{IsDeterministic, Leads, here, along, AreApart, IsMinimal, HasFewest}

-- numbers below a bound that are given different numbers below a second bound are no more than that
few_places : (m n : ℕ) (f : ℕ → ℕ) → ((i : ℕ) → i < n → f i < m) → ((i j : ℕ) → i < n → j < n → f i ≡ f j → i ≡ j) → n ≤ m
few_places zero zero f below one = omega arith
few_places zero (suc n) f below one = let b = below n (omega arith) in absurd (omega arith)
few_places (suc m) zero f below one = omega arith
few_places (suc m) (suc n) f below one =
    let g : ℕ → ℕ = λ i. cond (eqb (f i) m) (f n) (f i) in
    let rest : n ≤ m = few_places m n g
    (λ i l. let b = below i (omega arith) in let e = below n (omega arith) in let o = one i n (omega arith) (omega arith) in grind (arith, nat_tests))
    (λ i j k l same. let o = one i j (omega arith) (omega arith) in let p = one i n (omega arith) (omega arith) in let q = one j n (omega arith) (omega arith) in grind (arith, nat_tests)) in
    omega arith

-- two numbers are the same, or they aren't
pub same_or_not : (i j : ℕ) → (i ≡ j) ⊎ (i ≢ j)
same_or_not i j = elim (cases_lt i j) [
  | inl l ↦ inr (λ e. absurd (omega arith))
  | inr past ↦ elim (cases_lt j i) [ inl l ↦ inr (λ e. absurd (omega arith)) | inr back ↦ inl (omega arith) ]
]

module _ {L : Type 0} (m : Automaton L) where
  pub accepts_along : {s t : ℕ} {w : List L} (v : List L) → Leads m s w t → AcceptsFrom m t v → AcceptsFrom m s (w ++ v)
  accepts_along v here h = h
  accepts_along v (along go rest) h = read go (accepts_along v rest h)

  pub leads_more : {s t u : ℕ} {w : List L} (x : L) → Contains m.edges (record { from = t; letter = Some x; to = u }) → Leads m s w t → Leads m s (w ++ x ∷ []) u
  leads_more x go here = along go here
  leads_more x go (along first rest) = along first (leads_more x go rest)

  module _ (ok : IsDeterministic m) where
    pub no_skip : (s t : ℕ) → Contains m.edges (record { from = s; letter = None; to = t }) → ⊥
    no_skip s t h = let r = ok.no_epsilon (record { from = s; letter = None; to = t }) h in none-some r.0 r.1

    -- what follows the letter is accepted from where it leads
    pub read_back : (s t : ℕ) (x : L) (w : List L) → Contains m.edges (record { from = s; letter = Some x; to = t }) → AcceptsFrom m s (x ∷ w) → AcceptsFrom m t w
    read_back s t x w go (read {q = u} other rest) = subst (λ q. AcceptsFrom m q w) (ok.one_target s u t x other go) rest
    read_back s t x w go (skip {q = q} h rest) = absurd (no_skip s q h)

    pub accepts_back : {s t : ℕ} {w : List L} (v : List L) → Leads m s w t → AcceptsFrom m s (w ++ v) → AcceptsFrom m t v
    accepts_back v here h = h
    accepts_back {s} v (along {t = t} {x = x} {w = w} go rest) h = accepts_back v rest (read_back s t x (w ++ v) go h)

    -- the front of a word that is accepted leads to where the rest is accepted from
    pub front_leads : (w : List L) {v : List L} {s : ℕ} → AcceptsFrom m s (w ++ v) → (t : ℕ) × Leads m s w t × AcceptsFrom m t v
    front_leads [] {s = s} h = (s, here, h)
    front_leads (x ∷ w) (read go rest) = let r = front_leads w rest in (r.0, along go r.1, r.2)
    front_leads (x ∷ w) {s = s} (skip {q = q} h rest) = absurd (no_skip s q h)

module _ {L : Type 0} (m : Automaton L) (is : IsMinimal m) (other : Automaton L) (formed : IsWellFormed other) (ok : IsDeterministic other) (same : (w : List L) → Accepts other w ↔ Accepts m w) where
  abbrev IsImage : ℕ → ℕ → Type 0
  IsImage i q = (w : List L) × Leads m 0 w i × Leads other 0 w q

  -- a state of the other automaton to which a word leads that leads to the state
  image : (i : ℕ) → (q : ℕ) × (q < length other.finals) × (i < length m.finals → IsImage i q)
  image i = elim (cases_lt i (length m.finals)) [
    | inl l ↦ elim (same_or_not i 0) [
      | inl e ↦ (0, formed.start, λ _. subst (λ j. IsImage j 0) (sym e) ([], here, here))
      | inr ne ↦
          let r = is.reached i l in
          let v = is.leads_on i l ne in
          let f = front_leads other ok r.0 ((same (r.0 ++ v.0)).1 (accepts_along m v.0 r.1 v.1)) in
          (f.0, AcceptsFrom-within other formed f.2, λ _. (r.0, r.1, f.1))
    ]
    | inr past ↦ (0, formed.start, λ l. absurd (omega arith))
  ]

  -- a word is accepted from a state where it is from the other automaton's state
  across : (i : ℕ) (l : i < length m.finals) (v : List L) → AcceptsFrom m i v ↔ AcceptsFrom other (image i).0 v
  across i l v =
      let p = (image i).2 l in (
        λ h. accepts_back other ok v p.2 ((same (p.0 ++ v)).1 (accepts_along m v p.1 h)),
        λ h. accepts_back m is.deterministic v p.1 ((same (p.0 ++ v)).0 (accepts_along other v p.2 h)),
      )

  not_apart : (i j : ℕ) → i < length m.finals → j < length m.finals → (image i).0 ≡ (image j).0 → AreApart m i j → ⊥
  not_apart i j l k e (w, way) = elim way [
    | inl h ↦ h.1 ((across j k w).1 (subst (λ q. AcceptsFrom other q w) e ((across i l w).0 h.0)))
    | inr h ↦ h.0 ((across i l w).1 (subst (λ q. AcceptsFrom other q w) (sym e) ((across j k w).0 h.1)))
  ]

  one_image : (i j : ℕ) → i < length m.finals → j < length m.finals → (image i).0 ≡ (image j).0 → i ≡ j
  one_image i j l k e = elim (same_or_not i j) [ inl this ↦ this | inr ne ↦ absurd (not_apart i j l k e (is.apart i j l k ne)) ]

  fewest_of : length m.finals ≤ length other.finals
  fewest_of = few_places (length other.finals) (length m.finals) (λ i. (image i).0) (λ i _. (image i).1) one_image

pub fewest : {L : Type 0} (m : Automaton L) → IsMinimal m → HasFewest m
fewest m is = record { least = λ other formed ok same. fewest_of m is other formed ok same }

-- the start leads to itself
pub at_start : {L : Type 0} (m : Automaton L) (s : ℕ) → 0 ≡ s → Leads m 0 [] s
at_start m s e = subst (λ k. Leads m 0 [] k) e here
