-- Pairs of states of two complete automata over the same letters, as states of a search.
use Rattle.std.proofs.Common.{◌≡◌, ℕ, ◌+◌, ◌*◌, ◌<◌, ◌↔◌, ◌⊎◌, Bool, true, false, not, List, [], ◌∷◌, ◌++◌, Option, None, Some, IfSome, length, get_or, refl, subst, sym, ap, inl, inr, arith, ◌∙◌}
use Rattle.std.specs.Prelude.{nat_eq, ◌&&◌, if◌then◌else◌}
use Rattle.std.specs.List.{All, slice_get, list_any, Contains}
use Rattle.std.proofs.lemmas.Bool.{and_parts, cases_lt, eqb-true}
use Rattle.std.proofs.lemmas.List.Elements.{All-nil, All-cons}
use Rattle.std.proofs.lemmas.Nat.{mul-add-lt}
use Rattle.std.proofs.lemmas.Option.{slice_get-get_or}
use Rattle.indexmap.specs.IndexSet.{insert_key}
use Rattle.indexmap.proofs.CallerLemmas.{Contains-list_any}
use Rattle.word_relations.proofs.Places.{Contains-from_slice_get, same_at}
use Rattle.fsa.specs.Complete.{Complete, IsComplete, AcceptsFrom, next_state, stop, read}
use Rattle.fsa.proofs.Paths.{stop_back, read_back}
use Rattle.lang_equal.specs.Difference.{IsShortest, sought}
use Rattle.lang_equal.specs.Pairs.{AddsPair, HasNext, IsPair, LeadsPair, IsFinalPair, SoughtFrom}
use Rattle.lang_equal.specs.declared.search.StatePair.{StatePair}
use Rattle.lang_equal.specs.declared.search.Step.{Step}
use Rattle.lang_equal.specs.declared.sought.Sought.{Sought}
use Rattle.lang_equal.specs.declared.sought.Sought.TheVariants.{Differing, Outside}
use Rattle.lang_equal.proofs.Searching.{AreWords}

-- what is sought goes by whether the parts hold
pub sought_same : (which : Sought) {P P' Q Q' : Type 0} → P ↔ P' → Q ↔ Q' → sought which P Q ↔ sought which P' Q'
sought_same Differing p q = (
  λ h. elim h [ inl one ↦ inl (p.0 one.0, λ k. one.1 (q.1 k)) | inr one ↦ inr (q.0 one.0, λ k. one.1 (p.1 k)) ],
  λ h. elim h [ inl one ↦ inl (p.1 one.0, λ k. one.1 (q.0 k)) | inr one ↦ inr (q.1 one.0, λ k. one.1 (p.0 k)) ],
)
sought_same Outside p q = (λ h. (p.0 h.0, λ k. h.1 (q.1 k)), λ h. (p.1 h.0, λ k. h.1 (q.0 k)))

-- one of the two has it
sought_either : (which : Sought) (P Q : Type 0) → sought which P Q → P ⊎ Q
sought_either Differing P Q h = elim h [ inl one ↦ inl one.0 | inr one ↦ inr one.0 ]
sought_either Outside P Q h = inl h.0

first_letter : {L : Type 0} (d : Complete L) (s : ℕ) (x : L) (w : List L) → AcceptsFrom d s (x ∷ w) → Contains d.letters x
first_letter d s x w (read k letter goes rest) = Contains-from_slice_get d.letters k x letter

-- in each state a letter leads somewhere
next_of : {L : Type 0} (d : Complete L) → IsComplete d → (s k : ℕ) → s < length d.finals → k < length d.letters → (t : ℕ) × (next_state d s k ≡ Some t)
next_of d ok s k there inside =
    let full : length d.next ≡ length d.finals * length d.letters = ok.full in
    let within : s * length d.letters + k < length d.next = let m = mul-add-lt s (length d.letters) k (length d.finals) there inside in omega arith in
    (get_or d.next (s * length d.letters + k) 0, slice_get-get_or d.next (s * length d.letters + k) 0 within)

module _ {L : Type 0} (which : Sought) (a b : Complete L) (a_ok : IsComplete a) (b_ok : IsComplete b) (same : a.letters ≡ b.letters) where
  pub pair_words : AreWords a.letters (IsPair a b) (LeadsPair a b) (IsFinalPair which a b) (SoughtFrom which a b)
  pair_words = record {
    empty = λ pair is. sought_same which (stop_back a pair.first, stop) (stop_back b pair.second, stop);
    longer = λ pair to place x w is leads letter.
        let other : slice_get b.letters place ≡ Some x = subst (λ ls. slice_get ls place ≡ Some x) same letter in
        sought_same which
        (read_back a a_ok.distinct pair.first to.first place x w letter leads.0, read place letter leads.0)
        (read_back b b_ok.distinct pair.second to.second place x w other leads.1, read place other leads.1);
    over = λ pair x w is h. elim (sought_either which (AcceptsFrom a pair.first (x ∷ w)) (AcceptsFrom b pair.second (x ∷ w)) h) [
      | inl one ↦ first_letter a pair.first x w one
      | inr one ↦ subst (λ ls. Contains ls x) (sym same) (first_letter b pair.second x w one)
    ];
    next = λ pair place is inside.
        let to = next_of a a_ok pair.first place is.first inside in
        let other = next_of b b_ok pair.second place is.second (subst (λ ls. place < length ls) same inside) in
        (record { first = to.0; second = other.0 }, (to.1, other.1));
  }

same_pair : (p q : StatePair) → p.first ≡ q.first → p.second ≡ q.second → p ≡ q
same_pair p q one two =
    subst (λ n. p ≡ record { first = n; second = q.second }) one (subst (λ m. p ≡ record { first = p.first; second = m }) two refl)

abbrev pair_eq : StatePair → StatePair → Bool
pair_eq p q = nat_eq p.first q.first && nat_eq p.second q.second

-- a pair that is there isn't added
pub adds_none : (old new : List StatePair) (steps : List (Option Step)) (pair : StatePair) (step : Step) (is_new : Bool) → new ≡ insert_key pair_eq old pair → is_new ≡ not (list_any (pair_eq pair) old) → is_new ≡ false → AddsPair old steps pair step new steps
adds_none old new steps pair step is_new keys told known = by (list_any (pair_eq pair) old) refl
  where
    equal_same : (p q : StatePair) → pair_eq p q ≡ true → p ≡ q
    equal_same p q e = let parts = and_parts (nat_eq p.first q.first) (nat_eq p.second q.second) e in same_pair p q (eqb-true p.first q.first parts.0) (eqb-true p.second q.second parts.1)

    by : (b : Bool) → list_any (pair_eq pair) old ≡ b → AddsPair old steps pair step new steps
    by true e = inl (Contains-list_any pair_eq equal_same old pair e, keys ∙ ap (λ (c : Bool). if c then old else old ++ pair ∷ []) e, refl)
    by false e = let wrong : is_new ≡ true = told ∙ ap not e in cc

-- one more letter leads to a pair that was found
pub HasNext-more : {L : Type 0} (a b : Complete L) (pair : StatePair) (place : ℕ) (to : StatePair) (found new : List StatePair) → HasNext a b pair place found → ((q : StatePair) → Contains found q → Contains new q) → LeadsPair a b pair place to → Contains new to → HasNext a b pair (place + 1) new
HasNext-more a b pair place to found new before keeps goes held k t inside go = elim (cases_lt k place) [
  | inl old ↦ keeps t (before k t old go)
  | inr past ↦
      let is_k : k ≡ place = omega arith in
      let here : LeadsPair a b pair place t = subst (λ j. LeadsPair a b pair j t) is_k go in
      let first_is : to.first ≡ t.first = same_at a.next (pair.first * length a.letters + place) to.first t.first goes.0 here.0 in
      let second_is : to.second ≡ t.second = same_at b.next (pair.second * length b.letters + place) to.second t.second goes.1 here.1 in
      let is : to ≡ t = same_pair to t first_is second_is in
      subst (Contains new) is held
]

-- of languages with the same words the same is sought
pub sought_alike : {L : Type 0} (which : Sought) (P P' Q Q' : List L → Type 0) → ((w : List L) → P w ↔ P' w) → ((w : List L) → Q w ↔ Q' w) → (w : List L) → sought which (P w) (Q w) ↔ sought which (P' w) (Q' w)
sought_alike which P P' Q Q' p q w = sought_same which (p w) (q w)

-- an accepted word is over the letters
pub accepted_over : {L : Type 0} (d : Complete L) (s : ℕ) (w : List L) → AcceptsFrom d s w → All (Contains d.letters) w
accepted_over d s [] (stop h) = All-nil (Contains d.letters)
accepted_over d s (x ∷ w) (read {t = t} k letter goes rest) = All-cons (Contains d.letters) x w (Contains-from_slice_get d.letters k x letter) (accepted_over d t w rest)

pub sought_over : {L : Type 0} (which : Sought) (letters : List L) (a b : Complete L) → a.letters ≡ letters → b.letters ≡ letters → (w : List L) → sought which (AcceptsFrom a 0 w) (AcceptsFrom b 0 w) → All (Contains letters) w
sought_over which letters a b in_a in_b w h = elim (sought_either which (AcceptsFrom a 0 w) (AcceptsFrom b 0 w) h) [
  | inl one ↦ subst (λ ls. All (Contains ls) w) in_a (accepted_over a 0 w one)
  | inr one ↦ subst (λ ls. All (Contains ls) w) in_b (accepted_over b 0 w one)
]

-- a shortest word of a set is one of a set with the same words
pub shortest_alike : {L V : Type 0} (items : V → List L) (P Q : List L → Type 0) → ((w : List L) → P w ↔ Q w) → (found : Option V) → IfSome found (λ word. IsShortest P (items word)) → IfSome found (λ word. IsShortest Q (items word))
shortest_alike items P Q same None h = h
shortest_alike items P Q same (Some word) h = record { inside = (same (items word)).0 h.inside; least = λ w q. h.least w ((same w).1 q) }
