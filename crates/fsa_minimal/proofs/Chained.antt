-- The inverse at a letter: one more state is looked at, and the chain of the states that lead to a state.
use Rattle.std.proofs.Common.{◌≡◌, ◌≢◌, ℕ, ◌+◌, ◌<◌, ◌≤◌, ◌⊎◌, ◌↔◌, List, [], ◌∷◌, ◌++◌, Option, Some, None, length, set, sym, subst, ap, inl, inr, arith, ◌∙◌}
use Rattle.std.specs.List.{slice_get, Contains}
use Rattle.std.proofs.lemmas.Bool.{cases_lt}
use Rattle.std.proofs.lemmas.List.{length-set, length_push}
use Rattle.std.proofs.lemmas.Option.{slice_get_within, same_Some}
use Rattle.word_relations.proofs.Places.{slice_get-set_same, slice_get-set_other, slice_get-append_cases, same_at}
use Rattle.fsa.specs.Complete.{Complete, next_state}
use Rattle.fsa_explore.specs.Marks.{Marks, Adds}
use Rattle.fsa_explore.proofs.Added.{Grows-keeps}
use Rattle.fsa_minimal.proofs.Chains.{left_of}
use Rattle.fsa_minimal.proofs.Kept.{same_or_not}
use Rattle.fsa_minimal.specs.Inverses.{IsLastBelow, IsInverse}

-- the state at the bound leads elsewhere
last_more : {L : Type 0} (a : Complete L) (place to bound other : ℕ) (o : Option ℕ) → next_state a bound place ≡ Some other → to ≢ other → IsLastBelow a place to bound o → IsLastBelow a place to (bound + 1) o
last_more a place to bound other None goes ne never = λ r l h. elim (same_or_not r bound) [
  | inl e ↦ ne (same_Some to other (sym h ∙ ap (λ k. next_state a k place) e ∙ goes))
  | inr apart ↦ never r (omega arith) h
]
last_more a place to bound other (Some s) goes ne (l, there, greatest) = (
  omega arith,
  there,
  λ r k h. elim (same_or_not r bound) [
    | inl e ↦ absurd (ne (same_Some to other (sym h ∙ ap (λ k. next_state a k place) e ∙ goes)))
    | inr apart ↦ greatest r (omega arith) h
  ],
)

pub inverse_more : {L : Type 0} (a : Complete L) (place bound to : ℕ) (o : Option ℕ) (lasts befores : List (Option ℕ)) → next_state a bound place ≡ Some to → slice_get lasts to ≡ Some o
    → IsInverse a place bound lasts befores → (pushed : List (Option ℕ)) → pushed ≡ befores ++ o ∷ [] → IsInverse a place (bound + 1) (set lasts to (Some bound)) pushed
inverse_more a place bound to o lasts befores goes is_last inv pushed is = record {
  last_count = length-set lasts to (Some bound) ∙ inv.last_count;
  before_count = let p = ap length is ∙ length_push befores o in let q = inv.before_count in omega arith;
  last = λ t p at. elim (same_or_not t to) [
    | inl e ↦
        let there = slice_get-set_same lasts to (Some bound) (slice_get_within lasts to o is_last) in
        let same : Some bound ≡ p = same_at (set lasts to (Some bound)) to (Some bound) p there (subst (λ k. slice_get (set lasts to (Some bound)) k ≡ Some p) e at) in
        subst (λ q. IsLastBelow a place t (bound + 1) q) same (omega arith, goes ∙ ap Some (sym e), λ r l h. omega arith)
    | inr ne ↦ last_more a place t bound to p goes ne (inv.last t p (sym (slice_get-set_other lasts to t (Some bound) ne) ∙ at))
  ];
  before = λ s t p at h. elim (slice_get-append_cases befores (o ∷ []) s p (subst (λ xs. slice_get xs s ≡ Some p) is at)) [
    | inl old ↦ inv.before s t p old h
    | inr new ↦
        let k : new.0 < 1 = slice_get_within (o ∷ []) new.0 p new.2 in
        let e : s ≡ bound = let q = new.1 in let c = inv.before_count in omega arith in
        let zero_is : new.0 ≡ 0 = omega arith in
        let same : o ≡ p = same_Some o p (subst (λ j. slice_get (o ∷ []) j ≡ Some p) zero_is new.2) in
        let here : t ≡ to = same_Some t to (sym h ∙ ap (λ k. next_state a k place) e ∙ goes) in
        subst (λ q. IsLastBelow a place t s q) same (subst (λ u. IsLastBelow a place u s o) (sym here) (subst (λ k. IsLastBelow a place to k o) (sym e) (inv.last to o is_last)))
  ];
}

-- the chain goes down
pub last_smaller : {L : Type 0} (a : Complete L) (place to bound : ℕ) (o : Option ℕ) → IsLastBelow a place to bound o → left_of o < bound + 1
last_smaller a place to bound None last = omega arith
last_smaller a place to bound (Some s) last = let l = last.0 in omega arith

-- the marks while the chain is followed: those from before, and the states that lead to the state and aren't below the
-- bound, of which the rest of the chain has the last one
pub record IsMarked {L : Type 0} (a : Complete L) (place to : ℕ) (old now : List ℕ) (bound : ℕ) (o : Option ℕ) : Type 0 where
  pub rest : IsLastBelow a place to bound o
  pub only : (s : ℕ) → Contains now s → Contains old s ⊎ (next_state a s place ≡ Some to)
  pub kept : (s : ℕ) → Contains old s → Contains now s
  pub done : (s : ℕ) → bound ≤ s → next_state a s place ≡ Some to → Contains now s

pub marked_more : {L : Type 0} (a : Complete L) (place to : ℕ) (old : List ℕ) (now new : Marks) (bound source : ℕ) (o : Option ℕ) → IsMarked a place to old now.found bound (Some source) → Adds now new (λ k. k ≡ source)
    → IsLastBelow a place to source o → IsMarked a place to old new.found source o
marked_more a place to old now new bound source o m adds rest = record {
  rest = rest;
  only = λ s h. elim (adds.grows.only s h) [ inl before ↦ m.only s before | inr e ↦ inr (ap (λ k. next_state a k place) e ∙ m.rest.1) ];
  kept = λ s h. Grows-keeps now new (λ k. k ≡ source) adds.grows s (m.kept s h);
  done = λ s l h. elim (same_or_not s source) [
    | inl e ↦ adds.all s e
    | inr ne ↦ Grows-keeps now new (λ k. k ≡ source) adds.grows s (m.done s (elim (cases_lt s bound) [ inl below ↦ let g = m.rest.2 s below h in absurd (ne (omega arith)) | inr past ↦ past ]) h)
  ];
}

pub marked_all : {L : Type 0} (a : Complete L) (place to : ℕ) (old now : List ℕ) (bound : ℕ) → IsMarked a place to old now bound None → (s : ℕ) → Contains now s ↔ (Contains old s ⊎ (next_state a s place ≡ Some to))
marked_all a place to old now bound m s = (
  m.only s,
  λ h. elim h [
    | inl before ↦ m.kept s before
    | inr goes ↦ elim (cases_lt s bound) [ inl below ↦ absurd (m.rest s below goes) | inr past ↦ m.done s past goes ]
  ],
)

-- one turn of the chain: the state that it is at is marked, and the chain goes on
pub chain_turn : {L : Type 0} (a : Complete L) (place to : ℕ) (lasts befores : List (Option ℕ)) → IsInverse a place (length a.finals) lasts befores → (old : List ℕ) (now new : Marks) (bound source : ℕ) (next o : Option ℕ) → next ≡ Some source
    → IsMarked a place to old now.found bound next → Adds now new (λ k. k ≡ source) → slice_get befores source ≡ Some o → IsMarked a place to old new.found source o × (left_of o < left_of next)
chain_turn a place to lasts befores inv old now new bound source next o is m adds at =
    let mm : IsMarked a place to old now.found bound (Some source) = subst (λ p. IsMarked a place to old now.found bound p) is m in
    let rest = inv.before source to o at mm.rest.1 in
    (marked_more a place to old now new bound source o mm adds rest, subst (λ p. left_of o < left_of p) (sym is) (last_smaller a place to source o rest))
