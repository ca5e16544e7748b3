-- The moves from sets of nodes: how they are worked out one after another, and what is known of them as more sets are
-- numbered.
use Rattle.std.proofs.Common.{◌≡◌, ◌≢◌, ℕ, ◌+◌, ◌<◌, ◌≤◌, ◌⊎◌, ◌↔◌, List, [], ◌∷◌, ◌++◌, true, false, None, Some, length, refl, sym, subst, ap, inl, inr, arith, ◌∙◌, length-append, append_assoc, true≢false}
use Rattle.std.specs.List.{Contains, slice_get}
use Rattle.std.proofs.lemmas.Bool.{cases_lt}
use Rattle.std.proofs.lemmas.List.{append-nil, get_or_append_left}
use Rattle.std.proofs.lemmas.List.Elements.{Contains-push_cases, Contains-push, Contains-append_left}
use Rattle.std.proofs.lemmas.Option.{get_or_from_slice_get, same_Some, slice_get_within}
use Rattle.word_relations.proofs.Members.{Contains-nil_cases}
use Rattle.word_relations.proofs.Places.{Contains-from_slice_get, same_at, slice_get_from_Contains, slice_get-append_cases, slice_get-append_left}
use Rattle.fsa.specs.declared.automaton.Edge.{Edge}
use Rattle.lookup.specs.Walks.{AreInOrder, AreLearnt, AreMore, AreMoves, Carries, HasMove, IsKnown, IsLeast, LeadsOn, front_at}
use Rattle.lookup.specs.declared.walk.Byte.{Byte}
use Rattle.lookup.specs.declared.walk.Leaving.{Leaving}
use Rattle.lookup.specs.declared.walk.Move.{Move}

-- more sets behind those that were there
pub more_none : (sets : List (List ℕ)) → AreMore sets sets
more_none sets = ([], sym (append-nil sets))

pub more_then : (a b c : List (List ℕ)) → AreMore a b → AreMore b c → AreMore a c
more_then a b c (xs, is) (ys, js) = (xs ++ ys, js ∙ ap (λ v. v ++ ys) is ∙ append_assoc a xs ys)

pub more_of : (a b : List (List ℕ)) (list : List ℕ) → (b ≡ a) ⊎ (b ≡ a ++ list ∷ []) → AreMore a b
more_of a b list (inl same) = ([], same ∙ sym (append-nil a))
more_of a b list (inr one) = (list ∷ [], one)

pub more_within : (a b : List (List ℕ)) (n : ℕ) → AreMore a b → n < length a → n < length b
more_within a b n (xs, is) l = omega (arith, ap length is, length-append a xs)

pub more_at : (a b : List (List ℕ)) (n : ℕ) → AreMore a b → n < length a → front_at b n ≡ front_at a n
more_at a b n (xs, is) l = ap (λ v. front_at v n) is ∙ get_or_append_left a xs [] n l

module _ (edges : List (Edge Byte)) where
  pub moves_more : (a b : List (List ℕ)) (front : List ℕ) (moves : List Move) → AreMore a b → AreMoves edges a front moves → AreMoves edges b front moves
  moves_more a b front moves more are = record {
    carried = are.carried;
    all = are.all;
    in_order = are.in_order;
    within = λ m h. more_within a b m.to more (are.within m h);
    leads = λ m h. subst (λ next. LeadsOn edges front m.byte next) (sym (more_at a b m.to more (are.within m h))) (are.leads m h);
  }

  pub learnt_none : (sets : List (List ℕ)) → AreLearnt edges sets []
  learnt_none sets number known at is = absurd (let l = slice_get_within [] number known at in omega arith)

  -- of more sets the same is known, and of one set the moves that were worked out
  pub learnt_more : (a b : List (List ℕ)) (old new : List Leaving) (number : ℕ) (own : Leaving) → AreMore a b → number < length a → AreLearnt edges a old → AreMoves edges b (front_at a number) own.moves.items
      → slice_get new number ≡ Some own → ((n : ℕ) (known : Leaving) → n ≢ number → known.is_known ≡ true → (slice_get new n ≡ Some known) ↔ (slice_get old n ≡ Some known)) → AreLearnt edges b new
  learnt_more a b old new number own more within learnt are at others n known held is =
      elim (cases_lt n number) as (λ _. (n < length b) × AreMoves edges b (front_at b n) known.moves.items) [
        | inl below ↦ other (λ e. omega arith)
        | inr above ↦ elim (cases_lt number n) as (λ _. (n < length b) × AreMoves edges b (front_at b n) known.moves.items) [
          | inl l ↦ other (λ e. omega arith)
          | inr le ↦
              let e : number ≡ n = omega arith in
              let same : own ≡ known = same_at new n own known (subst (λ k. slice_get new k ≡ Some own) e at) held in
              let here : (number < length b) × AreMoves edges b (front_at b number) own.moves.items =
              (more_within a b number more within, subst (λ f. AreMoves edges b f own.moves.items) (sym (more_at a b number more within)) are) in
              subst (λ k. (n < length b) × AreMoves edges b (front_at b n) k.moves.items) same
              (subst (λ k. (k < length b) × AreMoves edges b (front_at b k) own.moves.items) e here)
        ]
      ]
    where
      other : n ≢ number → (n < length b) × AreMoves edges b (front_at b n) known.moves.items
      other apart =
          let was = learnt n known ((others n known apart is).0 held) is in (
            more_within a b n more was.0,
            subst (λ f. AreMoves edges b f known.moves.items) (sym (more_at a b n more was.0)) (moves_more a b (front_at a n) known.moves.items more was.1),
          )

  -- moves by bytes below a floor
  pub record AreBelow (sets : List (List ℕ)) (front : List ℕ) (floor : ℕ) (moves : List Move) : Type 0 where
    pub carried : (m : Move) → Contains moves m → Carries edges front m.byte
    pub low : (m : Move) → Contains moves m → m.byte < floor
    pub all : (byte : ℕ) → byte < floor → Carries edges front byte → HasMove moves byte
    pub in_order : AreInOrder moves
    pub within : (m : Move) → Contains moves m → m.to < length sets
    pub leads : (m : Move) → Contains moves m → LeadsOn edges front m.byte (front_at sets m.to)

  pub below_none : (sets : List (List ℕ)) (front : List ℕ) → AreBelow sets front 0 []
  below_none sets front = record {
    carried = λ m h. absurd (Contains-nil_cases m h);
    low = λ m h. absurd (Contains-nil_cases m h);
    all = λ byte low h. absurd (omega arith);
    in_order = λ i j a b l at_i at_j. absurd (let k = slice_get_within [] i a at_i in omega arith);
    within = λ m h. absurd (Contains-nil_cases m h);
    leads = λ m h. absurd (Contains-nil_cases m h);
  }

  -- the move by the least byte from the floor on
  pub below_more : (a b : List (List ℕ)) (front : List ℕ) (floor byte to : ℕ) (next : List ℕ) (moves : List Move) → AreMore a b → slice_get b to ≡ Some next
      → IsLeast (λ byte. (floor ≤ byte) × Carries edges front byte) (Some byte) → LeadsOn edges front byte next → AreBelow a front floor moves → AreBelow b front (byte + 1) (moves ++ record { byte = byte; to = to } ∷ [])
  below_more a b front floor byte to next moves more at least on are =
      let new : Move = record { byte = byte; to = to } in
      let passes = least.passes byte refl in
      let cases = λ (m : Move) (h : Contains (moves ++ new ∷ []) m). Contains-push_cases moves new m h in
      record {
        carried = λ m h. elim (cases m h) [ inl old ↦ are.carried m old | inr same ↦ subst (λ (x : Move). Carries edges front x.byte) same passes.1 ];
        low = λ m h. elim (cases m h) [
          | inl old ↦ let l = are.low m old in let f = passes.0 in omega arith
          | inr same ↦ let e = ap (λ (x : Move). x.byte) same in omega arith
        ];
        all = λ other low h. elim (cases_lt other floor) [
          | inl below ↦ let m = are.all other below h in (m.0, Contains-append_left moves (new ∷ []) m.0 m.1, m.2)
          | inr above ↦
              let l = least.least byte other refl (above, h) in
              (new, Contains-push moves new, omega arith)
        ];
        in_order = λ i j x y l at_i at_j. elim (slice_get-append_cases moves (new ∷ []) j y at_j) [
          | inl old ↦
              let w = slice_get_within moves j y old in
              let i_in : i < length moves = omega arith in
              are.in_order i j x y l (sym (slice_get-append_left moves (new ∷ []) i i_in) ∙ at_i) old
          | inr (k, is, there) ↦
              let w = slice_get_within (new ∷ []) k y there in
              let k_is : k ≡ 0 = omega arith in
              let same : new ≡ y = same_Some new y (subst (λ n. slice_get (new ∷ []) n ≡ Some y) k_is there) in
              let e = ap (λ (m : Move). m.byte) same in
              let i_in : i < length moves = omega arith in
              let low = are.low x (Contains-from_slice_get moves i x (sym (slice_get-append_left moves (new ∷ []) i i_in) ∙ at_i)) in
              let f = passes.0 in
              omega arith
        ];
        within = λ m h. elim (cases m h) [
          | inl old ↦ more_within a b m.to more (are.within m old)
          | inr same ↦ subst (λ (x : Move). x.to < length b) same (slice_get_within b to next at)
        ];
        leads = λ m h. elim (cases m h) [
          | inl old ↦ subst (λ f. LeadsOn edges front m.byte f) (sym (more_at a b m.to more (are.within m old))) (are.leads m old)
          | inr same ↦ subst (λ (x : Move). LeadsOn edges front x.byte (front_at b x.to)) same (subst (λ f. LeadsOn edges front byte f) (sym (get_or_from_slice_get b to next [] at)) on)
        ];
      }

  -- no byte is left
  pub below_all : (sets : List (List ℕ)) (front : List ℕ) (floor : ℕ) (moves : List Move) → IsLeast (λ byte. (floor ≤ byte) × Carries edges front byte) None → AreBelow sets front floor moves → AreMoves edges sets front moves
  below_all sets front floor moves least are = record {
    carried = are.carried;
    all = λ byte h. elim (cases_lt byte floor) [ inl below ↦ are.all byte below h | inr above ↦ absurd (least.none refl byte (above, h)) ];
    in_order = are.in_order;
    within = are.within;
    leads = are.leads;
  }

-- the first move from the floor on has the least byte
module _ (moves : List Move) (floor : ℕ) (order : AreInOrder moves) where
  pub least_found : (i : ℕ) (m : Move) → slice_get moves i ≡ Some m → floor ≤ m.byte → ((k : ℕ) (x : Move) → k < i → slice_get moves k ≡ Some x → x.byte < floor) → IsLeast (λ byte. (floor ≤ byte) × HasMove moves byte) (Some m.byte)
  least_found i m at high low = record {
    passes = λ least e. subst (λ b. (floor ≤ b) × HasMove moves b) (same_Some m.byte least e) (high, (m, Contains-from_slice_get moves i m at, refl));
    least = λ least other e (above, (x, held, is)).
        let same = same_Some m.byte least e in
        let place = slice_get_from_Contains moves x held in
        elim (cases_lt place.0 i) as (λ _. least ≤ other) [
          | inl l ↦ absurd (let b = low place.0 x l place.1 in omega arith)
          | inr ge ↦ elim (cases_lt i place.0) as (λ _. least ≤ other) [
            | inl l ↦ let b = order i place.0 m x l at place.1 in omega arith
            | inr le ↦
                let e' : place.0 ≡ i = omega arith in
                let one = ap (λ (y : Move). y.byte) (same_at moves i x m (subst (λ n. slice_get moves n ≡ Some x) e' place.1) at) in
                omega arith
          ]
        ];
    none = λ e other h. absurd (cc);
  }

  pub least_not_found : ((k : ℕ) (x : Move) → slice_get moves k ≡ Some x → x.byte < floor) → IsLeast (λ byte. (floor ≤ byte) × HasMove moves byte) None
  least_not_found low = record {
    passes = λ least e. absurd (cc);
    least = λ least other e h. absurd (cc);
    none = λ e other (above, (x, held, is)). let place = slice_get_from_Contains moves x held in let b = low place.0 x place.1 in omega arith;
  }

-- a set of which nothing is known yet
pub unknown_more : (old : List Leaving) (own : Leaving) (n : ℕ) (known : Leaving) → own.is_known ≡ false → known.is_known ≡ true → (slice_get (old ++ own ∷ []) n ≡ Some known) ↔ (slice_get old n ≡ Some known)
unknown_more old own n known not is = (
  λ h. elim (slice_get-append_cases old (own ∷ []) n known h) as (λ _. slice_get old n ≡ Some known) [
    | inl was ↦ was
    | inr (j, at, there) ↦
        let w = slice_get_within (own ∷ []) j known there in
        let zero_is : j ≡ 0 = omega arith in
        let same : own ≡ known = same_Some own known (subst (λ i. slice_get (own ∷ []) i ≡ Some known) zero_is there) in
        absurd (true≢false (sym is ∙ ap (λ (l : Leaving). l.is_known) (sym same) ∙ not))
  ],
  λ h. slice_get-append_left old (own ∷ []) n (slice_get_within old n known h) ∙ h,
)

-- what was known stays known
pub kept_more : (old new : List Leaving) (number : ℕ) (own : Leaving) → own.is_known ≡ true → slice_get new number ≡ Some own
    → ((n : ℕ) (known : Leaving) → n ≢ number → known.is_known ≡ true → (slice_get new n ≡ Some known) ↔ (slice_get old n ≡ Some known)) → (n : ℕ) → IsKnown old n → IsKnown new n
kept_more old new number own own_is at others n (known, there, is) = elim (cases_lt n number) as (λ _. IsKnown new n) [
  | inl l ↦ (known, (others n known (λ e. omega arith) is).1 there, is)
  | inr le ↦ elim (cases_lt number n) as (λ _. IsKnown new n) [
    | inl l ↦ (known, (others n known (λ e. omega arith) is).1 there, is)
    | inr ge ↦ let e : number ≡ n = omega arith in subst (λ k. IsKnown new k) e (own, at, own_is)
  ]
]
