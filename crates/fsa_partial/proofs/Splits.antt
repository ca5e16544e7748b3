-- Classes that are split by the edges of a letter.
use Rattle.std.proofs.Common.{◌≡◌, ◌≢◌, ℕ, zero, suc, ◌+◌, ◌<◌, ◌%◌, ◌^◌, ◌⊎◌, List, [], ◌∷◌, ◌++◌, Bool, true, Option, None, Some, length, set, take, refl, sym, subst, ap, inl, inr, arith, eq-eqb, ◌∙◌}
use Rattle.std.specs.Prelude.{Vec, nat_eq, ◌&&◌}
use Rattle.std.specs.Global.{Global}
use Rattle.std.specs.List.{slice_get, Contains}
use Rattle.std.proofs.lemmas.List.{length-set, length_push}
use Rattle.std.proofs.lemmas.List.Elements.{Contains-push, Contains-push_cases, Contains-append_left}
use Rattle.std.proofs.lemmas.Option.{same_Some, slice_get_within, none-some}
use Rattle.word_relations.specs.Words.{IsDistinct}
use Rattle.word_relations.proofs.Places.{slice_get-append_left, slice_get-append_cases, slice_get-push, slice_get-set_same, slice_get-set_other, Contains-from_slice_get}
use Rattle.fsa_partial.specs.declared.grouping.Arc.{Arc}
use Rattle.fsa_partial.specs.declared.pairs.ClassPair.{ClassPair}
use Rattle.fsa_partial.specs.Splitting.{AreByClasses, IsMoved, AreTold, IsSplit}
use Rattle.fsa_partial.proofs.Fewest.{same_or_not}
use Rattle.fsa_partial.proofs.Grouped.{same_arc, none_taken}

abbrev pub pair_eq : ClassPair → ClassPair → Bool
pair_eq p q = nat_eq p.from q.from && nat_eq p.to q.to

pub pair_of : (p q : ClassPair) → p.from ≡ q.from → p.to ≡ q.to → p ≡ q
pair_of p q one two = subst (λ n. p ≡ record { from = n; to = q.to }) one (subst (λ m. p ≡ record { from = p.from; to = m }) two refl)

pub same_pair : (p q : ClassPair) → p ≡ q → pair_eq p q ≡ true
same_pair p q e = subst (λ r. pair_eq p r ≡ true) e (ap (λ b. b && nat_eq p.to p.to) (eq-eqb p.from p.from refl) ∙ eq-eqb p.to p.to refl)

option_or_not : (o p : Option ℕ) → (o ≡ p) ⊎ (o ≢ p)
option_or_not None None = inl refl
option_or_not None (Some k) = inr (λ e. none-some k e)
option_or_not (Some j) None = inr (λ e. none-some j (sym e))
option_or_not (Some j) (Some k) = elim (same_or_not j k) [ inl e ↦ inl (ap Some e) | inr ne ↦ inr (λ e. ne (same_Some j k e)) ]

-- the number that an edge has: that of its pair, from the first one on
pub record HasPair (classes targets : List ℕ) (first : ℕ) (pairs : List ClassPair) (a : Arc) (number : ℕ) : Type 0 where
  pub pair : ClassPair
  pub place : ℕ
  pub at : slice_get pairs place ≡ Some pair
  pub from : slice_get classes a.from ≡ Some pair.from
  pub to : slice_get targets a.to ≡ Some pair.to
  pub is : number ≡ (first + place) % 2 ^ 64

pub record AreNumbered (classes targets : List ℕ) (first : ℕ) (arcs : List Arc) (pairs : List ClassPair) (numbers : List ℕ) : Type 0 where
  pub count : length numbers ≡ length arcs
  pub once : IsDistinct pairs
  pub each : (i : ℕ) (a : Arc) → slice_get arcs i ≡ Some a → (n : ℕ) × (slice_get numbers i ≡ Some n) × HasPair classes targets first pairs a n

module _ (classes targets : List ℕ) (first : ℕ) where
  pub numbered_none : (arcs : List Arc) (pairs : List ClassPair) → pairs ≡ [] → AreNumbered classes targets first (take 0 arcs) pairs []
  numbered_none arcs pairs empty = record {
    count = none arcs;
    once = λ i j x at_i at_j. let l = slice_get_within pairs i x at_i in let e = ap length empty in absurd (omega arith);
    each = λ i a at. absurd (none_taken arcs a (Contains-from_slice_get (take 0 arcs) i a at));
  }
    where
      none : (xs : List Arc) → 0 ≡ length (take 0 xs)
      none [] = refl
      none (x ∷ xs) = refl

  pub numbered_more : (arcs : List Arc) (now new : List ClassPair) (numbers more : List ℕ) (a : Arc) (p : ClassPair) (k n : ℕ) → AreNumbered classes targets first arcs now numbers
      → ((new ≡ now) ⊎ (new ≡ now ++ p ∷ [])) → IsDistinct new → slice_get new k ≡ Some p → slice_get classes a.from ≡ Some p.from → slice_get targets a.to ≡ Some p.to → n ≡ (first + k) % 2 ^ 64
      → more ≡ numbers ++ n ∷ [] → AreNumbered classes targets first (arcs ++ a ∷ []) new more
  numbered_more arcs now new numbers more a p k n are grown once at from to is pushed = record {
    count = ap length pushed ∙ length_push numbers n ∙ ap (λ i. i + 1) are.count ∙ sym (length_push arcs a);
    once = once;
    each = λ i b at_b. elim (slice_get-append_cases arcs (a ∷ []) i b at_b) [
      | inl was ↦
          let r = are.each i b was in
          let h = r.2 in
          (r.0, there i r.0 r.1, record { pair = h.pair; place = h.place; at = keeps h.place h.pair h.at; from = h.from; to = h.to; is = h.is })
      | inr (j, e, last) ↦ one i j b e last
    ];
  }
    where
      keeps : (i : ℕ) (q : ClassPair) → slice_get now i ≡ Some q → slice_get new i ≡ Some q
      keeps i q was = elim grown [
        | inl e ↦ subst (λ ps. slice_get ps i ≡ Some q) (sym e) was
        | inr e ↦ subst (λ ps. slice_get ps i ≡ Some q) (sym e) (slice_get-append_left now (p ∷ []) i (slice_get_within now i q was) ∙ was)
      ]

      there : (i m : ℕ) → slice_get numbers i ≡ Some m → slice_get more i ≡ Some m
      there i m was = subst (λ ps. slice_get ps i ≡ Some m) (sym pushed) (slice_get-append_left numbers (n ∷ []) i (slice_get_within numbers i m was) ∙ was)

      one : (i j : ℕ) (b : Arc) → i ≡ j + length arcs → slice_get (a ∷ []) j ≡ Some b → (m : ℕ) × (slice_get more i ≡ Some m) × HasPair classes targets first new b m
      one i zero b e last =
          let this : length numbers ≡ i = let c = are.count in omega arith in
          let is_b : a ≡ b = same_Some a b last in (
            n,
            subst (λ ps. slice_get ps i ≡ Some n) (sym pushed) (subst (λ l. slice_get (numbers ++ n ∷ []) l ≡ Some n) this (slice_get-push numbers n)),
            subst (λ d. HasPair classes targets first new d n) is_b (record { pair = p; place = k; at = at; from = from; to = to; is = is }),
          )
      one i (suc j) b e last = absurd (none-some b last)

  pub numbered_all : (arcs : List Arc) (pairs : List ClassPair) (numbers : List ℕ) → AreNumbered classes targets first arcs pairs numbers → AreByClasses classes targets arcs numbers
  numbered_all arcs pairs numbers are = record {
    count = are.count;
    same = λ i j a b at_a at_b from to.
        let p = are.each i a at_a in
        let q = are.each j b at_b in
        let pairs_are : p.2.pair ≡ q.2.pair = pair_of p.2.pair q.2.pair (same_Some p.2.pair.from q.2.pair.from (sym p.2.from ∙ from ∙ q.2.from)) (same_Some p.2.pair.to q.2.pair.to (sym p.2.to ∙ to ∙ q.2.to)) in
        let places : p.2.place ≡ q.2.place = are.once p.2.place q.2.place q.2.pair (p.2.at ∙ ap Some pairs_are) q.2.at in
        p.1 ∙ ap Some (p.2.is ∙ ap (λ k. (first + k) % 2 ^ 64) places ∙ sym q.2.is) ∙ sym q.1;
  }

-- states that are moved, edge by edge
module _ (numbers old : List ℕ) where
  pub moved_none : (arcs : List Arc) → IsMoved (take 0 arcs) numbers old old
  moved_none arcs = record { count = refl; state = λ s. inr (λ h. none_taken arcs (record { from = s; to = h.0 }) h.1, refl) }

  pub moved_more : (arcs : List Arc) (now : List ℕ) (a : Arc) (i n : ℕ) → length arcs ≡ i → a.from < length old → slice_get numbers i ≡ Some n → IsMoved arcs numbers old now → IsMoved (arcs ++ a ∷ []) numbers old (set now a.from n)
  moved_more arcs now a at_end n long below at_i m = record {
    count = length-set now a.from n ∙ m.count;
    state = λ s. elim (same_or_not s a.from) [
      | inl e ↦ let at : slice_get numbers (length arcs) ≡ Some n = ap (slice_get numbers) long ∙ at_i in inl (length arcs, (a, slice_get-push arcs a, sym e, subst (λ k. slice_get (set now a.from n) k ≡ slice_get numbers (length arcs)) (sym e) (slice_get-set_same now a.from n (let c = m.count in omega arith) ∙ sym at)))
      | inr ne ↦
          let same = slice_get-set_other now a.from s n ne in
          elim (m.state s) [
            | inl (i, (b, at_b, from, is)) ↦ inl (i, (b, slice_get-append_left arcs (a ∷ []) i (slice_get_within arcs i b at_b) ∙ at_b, from, same ∙ is))
            | inr (never, is) ↦ inr (
              λ h. elim (Contains-push_cases arcs a (record { from = s; to = h.0 }) h.1) [
                | inl was ↦ never (h.0, was)
                | inr one ↦ ne (ap (λ (b : Arc). b.from) (sym one))
              ],
              same ∙ is,
            )
          ]
    ];
  }

-- the edges of one letter
pub split_once : (classes targets : List ℕ) (arcs : List Arc) (numbers new : List ℕ) → AreByClasses classes targets arcs numbers → IsMoved arcs numbers classes new
    → (s t : ℕ) → slice_get new s ≢ slice_get new t → (slice_get classes s ≢ slice_get classes t) ⊎ AreTold targets arcs s t
split_once classes targets arcs numbers new are m s t ne = elim (m.state s) [
  | inl (i, (a, at_a, from_a, is_s)) ↦ elim (m.state t) [
    | inl (j, (b, at_b, from_b, is_t)) ↦ elim (option_or_not (slice_get classes s) (slice_get classes t)) [
      | inl same ↦ elim (option_or_not (slice_get targets a.to) (slice_get targets b.to)) [
        | inl to ↦
            let from : slice_get classes a.from ≡ slice_get classes b.from = ap (slice_get classes) from_a ∙ same ∙ ap (slice_get classes) (sym from_b) in
            absurd (ne (is_s ∙ are.same i j a b at_a at_b from to ∙ sym is_t))
        | inr differ ↦ inr (inr (inr (a.to, b.to, leaves i a s at_a from_a, leaves j b t at_b from_b, differ)))
      ]
      | inr differ ↦ inl differ
    ]
    | inr (never, is_t) ↦ inr (inl ((a.to, leaves i a s at_a from_a), never))
  ]
  | inr (never, is_s) ↦ elim (m.state t) [
    | inl (j, (b, at_b, from_b, is_t)) ↦ inr (inr (inl (never, (b.to, leaves j b t at_b from_b))))
    | inr (other, is_t) ↦ inl (λ same. ne (is_s ∙ same ∙ sym is_t))
  ]
]
  where
    leaves : (i : ℕ) (a : Arc) (s : ℕ) → slice_get arcs i ≡ Some a → a.from ≡ s → Contains arcs (record { from = s; to = a.to })
    leaves i a s at from = subst (Contains arcs) (same_arc a s a.to from refl) (Contains-from_slice_get arcs i a at)

-- letter by letter
pub split_none : (targets : List ℕ) (groups : List (Vec Arc Global)) (old new : List ℕ) → new ≡ old → IsSplit targets (take 0 groups) old new
split_none targets groups old new is s t ne = inl (λ e. ne (ap (λ cs. slice_get cs s) is ∙ e ∙ ap (λ cs. slice_get cs t) (sym is)))

pub split_more : (targets : List ℕ) (groups : List (Vec Arc Global)) (old now new : List ℕ) (arcs : Vec Arc Global) → IsSplit targets groups old now
    → ((s t : ℕ) → slice_get new s ≢ slice_get new t → (slice_get now s ≢ slice_get now t) ⊎ AreTold targets arcs.items s t) → IsSplit targets (groups ++ arcs ∷ []) old new
split_more targets groups old now new arcs before one s t ne = elim (one s t ne) [
  | inl differ ↦ elim (before s t differ) [
    | inl d ↦ inl d
    | inr (v, held, told) ↦ inr (v, Contains-append_left groups (arcs ∷ []) v held, told)
  ]
  | inr told ↦ inr (arcs, Contains-push groups arcs, told)
]

pub long_front : {X : Type 0} (xs : List X) (i : ℕ) → i < length xs → length (take i xs) ≡ i
long_front [] i l = absurd (omega arith)
long_front (x ∷ xs) zero l = refl
long_front (x ∷ xs) (suc i) l = ap suc (long_front xs i (omega arith))
