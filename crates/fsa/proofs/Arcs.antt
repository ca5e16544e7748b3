-- The edges of a complete automaton, one more at a time, and the language that they have.
use Rattle.std.proofs.Common.{◌≡◌, ℕ, ◌+◌, ◌*◌, ◌<◌, ◌≤◌, ◌⊎◌, ◌↔◌, List, [], ◌∷◌, ◌++◌, Option, Some, None, true, length, refl, subst, sym, ap, inl, inr, arith, ◌∙◌}
use Rattle.std.specs.List.{slice_get, Contains}
use Rattle.std.proofs.lemmas.Option.{slice_get_within, same_Some}
use Rattle.std.proofs.lemmas.List.Elements.{Contains-push_cases, Contains-push, Contains-append_left}
use Rattle.std.proofs.lemmas.Bool.{cases_lt}
use Rattle.std.proofs.Math.Nat.{mul-le-mul_right}
use Rattle.word_relations.proofs.Members.{Contains-nil_cases}
use Rattle.word_relations.proofs.Places.{same_at, Contains-from_slice_get}
use Rattle.fsa.specs.Automaton.{Automaton, UsesLetter, HasNoEpsilonEdge}
use Rattle.fsa.specs.Language as fsa
use Rattle.fsa.specs.Complete.{Complete, IsComplete, AcceptsFrom, Accepts, stop, read, next_state}
use Rattle.fsa.specs.Arcs.{IsArc, HasArcs}
use Rattle.fsa.specs.declared.automaton.Edge.{Edge}

-- the entries of the rows above the state's, and the state's up to a place
abbrev pub IsBefore : ℕ → ℕ → ℕ → ℕ → Type 0
IsBefore state upto s k = (s < state) ⊎ ((s ≡ state) × (k < upto))

-- two edges with the same ends and letter are the same
pub edge_same : {M : Type 0} (e f : Edge M) → e.from ≡ f.from → e.letter ≡ f.letter → e.to ≡ f.to → e ≡ f
edge_same {M} e f a b c =
    let with_from : ℕ → Edge M = λ n. record { from = n; letter = e.letter; to = e.to } in
    let with_letter : Option M → Edge M = λ x. record { from = f.from; letter = x; to = e.to } in
    let with_to : ℕ → Edge M = λ n. record { from = f.from; letter = f.letter; to = n } in
    ap with_from a ∙ ap with_letter b ∙ ap with_to c

module _ {L : Type 0} (d : Complete L) where
  pub HasArcs-none : HasArcs d (λ s _. s < 0) []
  HasArcs-none = record {
    only = λ e h. absurd (Contains-nil_cases e h);
    all = λ k e h _. absurd (omega arith);
  }

  pub HasArcs-row_none : (state : ℕ) (edges : List (Edge L)) → HasArcs d (λ s _. s < state) edges → HasArcs d (IsBefore state 0) edges
  HasArcs-row_none state edges h = record {
    only = λ e c. let r = h.only e c in (r.0, inl r.1, r.2);
    all = λ k e p arc. h.all k e (elim p [ inl l ↦ l | inr q ↦ absurd (omega arith) ]) arc;
  }

  pub HasArcs-row_more : (state i t : ℕ) (x : L) (edges : List (Edge L)) → slice_get d.letters i ≡ Some x → next_state d state i ≡ Some t → HasArcs d (IsBefore state i) edges → HasArcs d (IsBefore state (i + 1)) (edges ++ record { from = state; letter = Some x; to = t } ∷ [])
  HasArcs-row_more state i t x edges at go h =
      let new : Edge L = record { from = state; letter = Some x; to = t } in
      record {
        only = λ e c. elim (Contains-push_cases edges new e c) [
          | inl old ↦ let r = h.only e old in (r.0, elim r.1 [ inl l ↦ inl l | inr q ↦ inr (q.0, omega arith) ], r.2)
          | inr same ↦
              let P : Edge L → Type 0 = λ y. (k : ℕ) × IsBefore state (i + 1) y.from k × IsArc d k y in
              subst P same (i, inr (refl, omega arith), (x, at, refl, go))
        ];
        all = λ k e p arc. elim p [
          | inl l ↦ Contains-append_left edges (new ∷ []) e (h.all k e (inl l) arc)
          | inr q ↦ elim (cases_lt k i) [
            | inl l ↦ Contains-append_left edges (new ∷ []) e (h.all k e (inr (q.0, l)) arc)
            | inr g ↦
                let k_is : k ≡ i = omega arith in
                let letter : arc.0 ≡ x = same_at d.letters i arc.0 x (subst (λ j. slice_get d.letters j ≡ Some arc.0) k_is arc.1) at in
                let to : e.to ≡ t = same_at d.next (state * length d.letters + i) e.to t (subst (λ j. next_state d j i ≡ Some e.to) q.0 (subst (λ j. next_state d e.from j ≡ Some e.to) k_is arc.3)) go in
                let from : e.from ≡ state = q.0 in
                let is_letter : e.letter ≡ Some x = arc.2 ∙ ap Some letter in
                let same : new ≡ e = edge_same new e (sym from) (sym is_letter) (sym to) in
                subst (λ y. Contains (edges ++ new ∷ []) y) same (Contains-push edges new)
          ]
        ];
      }

  pub HasArcs-row_all : (state i : ℕ) (edges : List (Edge L)) → length d.letters ≤ i → HasArcs d (IsBefore state i) edges → HasArcs d (λ s _. s < state + 1) edges
  HasArcs-row_all state i edges past h = record {
    only = λ e c. let r = h.only e c in (r.0, elim r.1 [ inl l ↦ omega arith | inr q ↦ omega arith ], r.2);
    all = λ k e l arc.
        let within : k < length d.letters = slice_get_within d.letters k arc.0 arc.1 in
        h.all k e (elim (cases_lt e.from state) [ inl b ↦ inl b | inr g ↦ inr (omega arith, omega arith) ]) arc;
  }

  module _ (ok : IsComplete d) (m : Automaton L) (finals : m.finals ≡ d.finals) (n : ℕ) (past : length d.finals ≤ n) (arcs : HasArcs d (λ s _. s < n) m.edges) where
    pub arcs_letters : (x : L) → UsesLetter m x → Contains d.letters x
    arcs_letters x (e, c, is) =
        let r = arcs.only e c in
        let same : r.2.0 ≡ x = same_Some r.2.0 x (sym r.2.2 ∙ is) in
        subst (λ y. Contains d.letters y) same (Contains-from_slice_get d.letters r.0 r.2.0 r.2.1)

    pub arcs_not_epsilon : HasNoEpsilonEdge m
    arcs_not_epsilon e c = let r = arcs.only e c in (r.2.0, r.2.2)

    pub arcs_down : {s : ℕ} {w : List L} → fsa.AcceptsFrom m s w → AcceptsFrom d s w
    arcs_down {s} (fsa.stop h) = stop (subst (λ fs. slice_get fs s ≡ Some true) finals h)
    arcs_down {s} (fsa.read {q = q} {x = x} c rest) =
        let e : Edge L = record { from = s; letter = Some x; to = q } in
        let r = arcs.only e c in
        let same : r.2.0 ≡ x = same_Some r.2.0 x (sym r.2.2) in
        read r.0 (subst (λ y. slice_get d.letters r.0 ≡ Some y) same r.2.1) r.2.3 (arcs_down rest)
    arcs_down {s} (fsa.skip {q = q} c rest) =
        let e : Edge L = record { from = s; letter = None; to = q } in
        let r = arcs.only e c in
        let epsilon : None ≡ Some r.2.0 = r.2.2 in absurd (cc)

    -- an entry of the table stands in the row of a state that is there
    row_is_there : (s k t : ℕ) (x : L) → slice_get d.letters k ≡ Some x → next_state d s k ≡ Some t → s < n
    row_is_there s k t x at go =
        let inside : s * length d.letters + k < length d.next = slice_get_within d.next (s * length d.letters + k) t go in
        let full : length d.next ≡ length d.finals * length d.letters = ok.full in
        elim (cases_lt s (length d.finals)) [
          | inl l ↦ omega arith
          | inr g ↦ let h : length d.finals * length d.letters ≤ s * length d.letters = mul-le-mul_right (length d.letters) g in absurd (omega arith)
        ]

    pub arcs_up : {s : ℕ} {w : List L} → AcceptsFrom d s w → fsa.AcceptsFrom m s w
    arcs_up {s} (stop h) = fsa.stop (subst (λ fs. slice_get fs s ≡ Some true) (sym finals) h)
    arcs_up {s} (read {t = t} {x = x} k at go rest) =
        fsa.read (arcs.all k (record { from = s; letter = Some x; to = t }) (row_is_there s k t x at go) (x, at, refl, go)) (arcs_up rest)

    pub arcs_language : (w : List L) → fsa.Accepts m w ↔ Accepts d w
    arcs_language w = (arcs_down, arcs_up)
