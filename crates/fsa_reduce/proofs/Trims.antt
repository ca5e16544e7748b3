-- The states that are kept, their new numbers, and the language of what is left.
use Rattle.std.proofs.Common.{◌≡◌, ℕ, ◌+◌, ◌<◌, ◌≤◌, ◌⊎◌, ◌↔◌, List, [], ◌∷◌, ◌++◌, Bool, Option, Some, None, true, false, length, map, get_or, set, take, refl, subst, sym, ap, inl, inr, arith, ◌∙◌}
use Rattle.std.specs.List.{Contains, slice_get}
use Rattle.std.specs.List.Sorted.{IsPermutation}
use Rattle.std.specs.Option.{option_map}
use Rattle.std.proofs.lemmas.Bool.{cases_lt, cases_eq}
use Rattle.std.proofs.lemmas.Option.{slice_get_within, slice_get-get_or, slice_get-map, get_or_from_slice_get, same_Some}
use Rattle.std.proofs.lemmas.List.{take_more, take_all, length-map}
use Rattle.std.proofs.lemmas.List.Elements.{Contains-push_cases}
use Rattle.word_relations.proofs.Members.{Contains-map, Contains-map_cases}
use Rattle.word_relations.proofs.Places.{slice_get-append_left, slice_get-set_same, slice_get-set_other, same_at, Contains-from_slice_get}
use Rattle.fsa.specs.Automaton.{Automaton, IsFinal, IsWellFormed, UsesLetter}
use Rattle.fsa.specs.Language.{AcceptsFrom, Accepts, stop, read, skip}
use Rattle.fsa.specs.declared.automaton.Edge.{Edge}
use Rattle.fsa_explore.specs.Marks.{Marks, Adds, Grows, IsBounded}
use Rattle.fsa_explore.specs.Reaches.{IsReached, here}
use Rattle.fsa_explore.proofs.Added.{Adds-then, Adds-same}
use Rattle.fsa_explore.proofs.Closed.{Reaches-push}
use Rattle.fsa_rational.proofs.Walks.{same_elements}
use Rattle.fsa_reduce.specs.Gains.{Gains, ForSome}
use Rattle.fsa_reduce.specs.Trimmed.{IsNumbering, IsRenumbered, turned}
use Rattle.fsa_reduce.proofs.Gaining.{Gains-none, Gains-push, Gains-same, some_more, some_all, gained}

-- the final states, state by state
module _ (finals : List Bool) where
  abbrev pub FinalBelow : ℕ → ℕ → Type 0
  FinalBelow i k = (k < i) × (slice_get finals k ≡ Some true)

  last_or_before : (i k : ℕ) → k < i + 1 → (k < i) ⊎ (k ≡ i)
  last_or_before i k l = elim (cases_lt k i) [ inl b ↦ inl b | inr g ↦ inr (omega arith) ]

  pub finals_more : (i : ℕ) (old now new : Marks) → slice_get finals i ≡ Some true → Adds old now (FinalBelow i) → Adds now new (λ k. k ≡ i) → Adds old new (FinalBelow (i + 1))
  finals_more i old now new is before step =
      Adds-then old now new (FinalBelow i) (λ k. k ≡ i) (FinalBelow (i + 1))
      (λ k r. elim (last_or_before i k r.0) [ inl b ↦ inl (b, r.1) | inr same ↦ inr same ])
      (λ k r. let l = r.0 in (omega arith, r.1))
      (λ k same. (omega arith, subst (λ j. slice_get finals j ≡ Some true) (sym same) is))
      before step

  pub finals_past : (i : ℕ) (old now : Marks) → slice_get finals i ≡ Some false → Adds old now (FinalBelow i) → Adds old now (FinalBelow (i + 1))
  finals_past i old now other h =
      Adds-same old now (FinalBelow i) (FinalBelow (i + 1))
      (λ k r. let l = r.0 in (omega arith, r.1))
      (λ k r. elim (last_or_before i k r.0) [
        | inl b ↦ (b, r.1)
        | inr same ↦ let clash : true ≡ false = same_at finals i true false (subst (λ j. slice_get finals j ≡ Some true) same r.1) other in absurd (cc)
      ])
      h

  pub finals_all : (i : ℕ) (old now : Marks) → length finals ≤ i → Adds old now (FinalBelow i) → Adds old now (λ k. slice_get finals k ≡ Some true)
  finals_all i old now past h =
      Adds-same old now (FinalBelow i) (λ k. slice_get finals k ≡ Some true)
      (λ k r. r.1)
      (λ k r. let l = slice_get_within finals k true r in (omega arith, r))
      h

-- numbers, one by one
module _ (order : List ℕ) (i k : ℕ) (within : i < length order) (at : slice_get order i ≡ Some k) (numbers : List (Option ℕ)) (there : k < length numbers) where
  pub only_more : ((state number : ℕ) → slice_get numbers state ≡ Some (Some number) → slice_get order number ≡ Some state) → (state number : ℕ) → slice_get (set numbers k (Some i)) state ≡ Some (Some number) → slice_get order number ≡ Some state
  only_more before state number h =
      elim (cases_eq state k) [
        | inl same ↦
            let new : slice_get (set numbers k (Some i)) state ≡ Some (Some i) = ap (λ j. slice_get (set numbers k (Some i)) j) same ∙ slice_get-set_same numbers k (Some i) there in
            let is : Some number ≡ Some i = same_Some (Some number) (Some i) (sym h ∙ new) in
            let number_is : number ≡ i = same_Some number i is in
            ap (λ j. slice_get order j) number_is ∙ at ∙ ap Some (sym same)
        | inr other ↦ before state number (sym (slice_get-set_other numbers k state (Some i) other) ∙ h)
      ]

  pub all_more : ((state : ℕ) → Contains (take i order) state → (number : ℕ) × (slice_get numbers state ≡ Some (Some number))) → (state : ℕ) → Contains (take (i + 1) order) state → (number : ℕ) × (slice_get (set numbers k (Some i)) state ≡ Some (Some number))
  all_more before state h =
      elim (cases_eq state k) [
        | inl same ↦ (i, ap (λ j. slice_get (set numbers k (Some i)) j) same ∙ slice_get-set_same numbers k (Some i) there)
        | inr other ↦
            let front : take (i + 1) order ≡ take i order ++ k ∷ [] = take_more order i k within ∙ ap (λ z. take i order ++ z ∷ []) (get_or_from_slice_get order i k k at) in
            elim (Contains-push_cases (take i order) k state (subst (λ ys. Contains ys state) front h)) [
              | inl held ↦ let r = before state held in (r.0, slice_get-set_other numbers k state (Some i) other ∙ r.1)
              | inr this ↦ absurd (other (sym this))
            ]
      ]

-- all numbers, and then the start's again
module _ (order : List ℕ) (start : slice_get order 0 ≡ Some 0) (numbers : List (Option ℕ)) (there : 0 < length numbers) (only : (state number : ℕ) → slice_get numbers state ≡ Some (Some number) → slice_get order number ≡ Some state)
    (i : ℕ) (past : length order ≤ i) (all : (state : ℕ) → Contains (take i order) state → (number : ℕ) × (slice_get numbers state ≡ Some (Some number))) where
  pub numbering_all : IsNumbering order (set numbers 0 (Some 0))
  numbering_all =
      let within : 0 < length order = slice_get_within order 0 0 start in
      record {
        only = only_more order 0 0 within start numbers there only;
        all = λ state h. elim (cases_eq state 0) [
          | inl same ↦ (0, ap (λ j. slice_get (set numbers 0 (Some 0)) j) same ∙ slice_get-set_same numbers 0 (Some 0) there)
          | inr other ↦
              let r = all state (subst (λ ys. Contains ys state) (sym (take_all i order past)) h) in
              (r.0, slice_get-set_other numbers 0 state (Some 0) other ∙ r.1)
        ];
      }

-- edges, one by one
module _ {L : Type 0} (numbers : List (Option ℕ)) (edges : List (Edge L)) (i : ℕ) (d : Edge L) (within : i < length edges) (now new : List (Edge L)) (before : Gains (ForSome (IsRenumbered numbers) (take i edges)) [] now) where
  renumbered_once : (old e f : Edge L) → IsRenumbered numbers old e → IsRenumbered numbers old f → f ≡ e
  renumbered_once old e f (from, to, letter) (from', to', letter') =
      let same_from : f.from ≡ e.from = same_Some f.from e.from (same_at numbers old.from (Some f.from) (Some e.from) from' from) in
      let same_to : f.to ≡ e.to = same_Some f.to e.to (same_at numbers old.to (Some f.to) (Some e.to) to' to) in
      ap (λ p. record { from = p; letter = f.letter; to = f.to }) same_from ∙ ap (λ l. record { from = e.from; letter = l; to = f.to }) (letter' ∙ sym letter) ∙ ap (λ q. record { from = e.from; letter = e.letter; to = q }) same_to

  pub edges_more : (e : Edge L) → IsRenumbered numbers (get_or edges i d) e → new ≡ now ++ e ∷ [] → Gains (ForSome (IsRenumbered numbers) (take (i + 1) edges)) [] new
  edges_more e is pushed =
      some_more (IsRenumbered numbers) edges i d within [] now new before
      (Gains-same (λ f. f ≡ e) (IsRenumbered numbers (get_or edges i d)) now new
      (λ f same. subst (λ x. IsRenumbered numbers (get_or edges i d) x) (sym same) is)
      (λ f h. renumbered_once (get_or edges i d) e f is h)
      (Gains-push now new e pushed))

  pub edges_past : ((e : Edge L) → IsRenumbered numbers (get_or edges i d) e → ⊥) → Gains (ForSome (IsRenumbered numbers) (take (i + 1) edges)) [] now
  edges_past never = some_more (IsRenumbered numbers) edges i d within [] now now before (Gains-none (IsRenumbered numbers (get_or edges i d)) now never)

pub edges_all : {L : Type 0} (numbers : List (Option ℕ)) (edges : List (Edge L)) (i : ℕ) (now : List (Edge L)) → length edges ≤ i → Gains (ForSome (IsRenumbered numbers) (take i edges)) [] now → (e : Edge L) → Contains now e ↔ ForSome (IsRenumbered numbers) edges e
edges_all numbers edges i now past h = gained (ForSome (IsRenumbered numbers) edges) now (some_all (IsRenumbered numbers) edges i [] now past h)

-- each state on a path to a final state is reached backwards
module _ {L : Type 0} (a : Automaton L) (back rows : List (Edge L)) (is : back ≡ map turned a.edges) (perm : IsPermutation back rows) (found : List ℕ) (finals : (k : ℕ) → IsFinal a k → Contains found k) where
  backwards : (p : ℕ) (letter : Option L) (q : ℕ) → Contains a.edges (record { from = p; letter = letter; to = q }) → Contains rows (record { from = q; letter = None; to = p })
  backwards p letter q h =
      let e : Edge L = record { from = p; letter = letter; to = q } in
      (same_elements back rows perm (turned e)).1 (subst (λ es. Contains es (turned e)) (sym is) (Contains-map turned a.edges e h))

  further : (p q : ℕ) → Contains rows (record { from = q; letter = None; to = p }) → IsReached rows found q → IsReached rows found p
  further p q h (f, start, path) = (f, start, Reaches-push rows p path h)

  pub live : {p : ℕ} {w : List L} → AcceptsFrom a p w → IsReached rows found p
  live {p} (stop h) = (p, finals p h, here)
  live {p} (read {q = q} {x = x} h rest) = further p q (backwards p (Some x) q h) (live rest)
  live {p} (skip {q = q} h rest) = further p q (backwards p None q h) (live rest)

pub turned_within : {L : Type 0} (a : Automaton L) → IsWellFormed a → (back rows : List (Edge L)) → back ≡ map turned a.edges → IsPermutation back rows → (e : Edge L) → Contains rows e → e.to < length a.finals
turned_within {L} a ok back rows is perm e h =
    let r = Contains-map_cases turned a.edges e (subst (λ es. Contains es e) is ((same_elements back rows perm e).0 h)) in
    subst (λ k. k < length a.finals) (ap (λ (f : Edge L). f.to) r.2) (ok.within r.0 r.1).0

-- what was found first stays first
pub first_stays : (old new : Marks) (P : ℕ → Type 0) → Grows old new P → slice_get old.found 0 ≡ Some 0 → slice_get new.found 0 ≡ Some 0
first_stays old new P grows at =
    let more = grows.grown in
    ap (λ ks. slice_get ks 0) more.1 ∙ slice_get-append_left old.found more.0 0 (slice_get_within old.found 0 0 at) ∙ at

-- what is left has the same language
module _ {L : Type 0} (a m : Automaton L) (order : List ℕ) (numbers : List (Option ℕ)) (numbering : IsNumbering order numbers) (start : slice_get order 0 ≡ Some 0)
    (all_live : (p : ℕ) (w : List L) → AcceptsFrom a p w → Contains order p) (finals_are : m.finals ≡ map (λ k. get_or a.finals k false) order) (within : (k : ℕ) → Contains order k → k < length a.finals)
    (edges_are : (e : Edge L) → Contains m.edges e ↔ ForSome (IsRenumbered numbers) a.edges e) where
  final_at : (j p : ℕ) → slice_get order j ≡ Some p → slice_get m.finals j ≡ slice_get a.finals p
  final_at j p at =
      let mapped : slice_get m.finals j ≡ Some (get_or a.finals p false) = ap (λ fs. slice_get fs j) finals_are ∙ slice_get-map (λ k. get_or a.finals k false) order j ∙ ap (λ o. option_map (λ k. get_or a.finals k false) o) at in
      mapped ∙ sym (slice_get-get_or a.finals p false (within p (Contains-from_slice_get order j p at)))

  old_edge : (j k : ℕ) (letter : Option L) → Contains m.edges (record { from = j; letter = letter; to = k }) → (p : ℕ) × (q : ℕ) × (slice_get order j ≡ Some p) × (slice_get order k ≡ Some q) × Contains a.edges (record { from = p; letter = letter; to = q })
  old_edge j k letter h =
      let r = (edges_are (record { from = j; letter = letter; to = k })).0 h in
      let e : Edge L = r.0 in
      (e.from, e.to, numbering.only e.from j r.2.0, numbering.only e.to k r.2.1, subst (λ (l : Option L). Contains a.edges (record { from = e.from; letter = l; to = e.to })) (sym r.2.2) r.1)

  down : {j : ℕ} {w : List L} → AcceptsFrom m j w → (p : ℕ) → slice_get order j ≡ Some p → AcceptsFrom a p w
  down {j} (stop h) p at = stop (sym (final_at j p at) ∙ h)
  down {j} (read {q = k} {x = x} {w = w} h rest) p at =
      let r = old_edge j k (Some x) h in
      let same : r.0 ≡ p = same_at order j r.0 p r.2 at in
      subst (λ s. AcceptsFrom a s (x ∷ w)) same (read r.4 (down rest r.1 r.3))
  down {j} (skip {q = k} {w = w} h rest) p at =
      let r = old_edge j k None h in
      let same : r.0 ≡ p = same_at order j r.0 p r.2 at in
      subst (λ s. AcceptsFrom a s w) same (skip r.4 (down rest r.1 r.3))

  new_edge : (p q j k : ℕ) (letter : Option L) → slice_get numbers p ≡ Some (Some j) → slice_get numbers q ≡ Some (Some k) → Contains a.edges (record { from = p; letter = letter; to = q }) → Contains m.edges (record { from = j; letter = letter; to = k })
  new_edge p q j k letter from to h = (edges_are (record { from = j; letter = letter; to = k })).1 (record { from = p; letter = letter; to = q }, h, (from, to, refl))

  up : {p : ℕ} {w : List L} → AcceptsFrom a p w → (j : ℕ) → slice_get numbers p ≡ Some (Some j) → AcceptsFrom m j w
  up {p} (stop h) j at = stop (final_at j p (numbering.only p j at) ∙ h)
  up {p} (read {q = q} {x = x} {w = w} h rest) j at = let k = numbering.all q (all_live q w rest) in read (new_edge p q j k.0 (Some x) at k.1 h) (up rest k.0 k.1)
  up {p} (skip {q = q} {w = w} h rest) j at = let k = numbering.all q (all_live q w rest) in skip (new_edge p q j k.0 None at k.1 h) (up rest k.0 k.1)

  pub trimmed_language : slice_get numbers 0 ≡ Some (Some 0) → (w : List L) → Accepts m w ↔ Accepts a w
  trimmed_language zero w = (λ h. down h 0 start, λ h. up h 0 zero)

  pub trimmed_letters : (x : L) → UsesLetter m x → UsesLetter a x
  trimmed_letters x (e, h, reads) = let r = (edges_are e).0 h in (r.0, r.1, sym r.2.2 ∙ reads)

-- the new numbers are those of states
pub trimmed_within : {L : Type 0} (order : List ℕ) (numbers : List (Option ℕ)) → IsNumbering order numbers → (final : ℕ → Bool) (finals : List Bool) → finals ≡ map final order → (edges : List (Edge L)) (e : Edge L) → ForSome (IsRenumbered numbers) edges e → (e.from < length finals) × (e.to < length finals)
trimmed_within order numbers numbering final finals is edges e (old, held, (from, to, letter)) =
    let long : length finals ≡ length order = ap length is ∙ length-map order final in
    let below_from = slice_get_within order e.from old.from (numbering.only old.from e.from from) in
    let below_to = slice_get_within order e.to old.to (numbering.only old.to e.to to) in
    (omega arith, omega arith)

-- what is left, as the automaton that is built of it
module _ {L : Type 0} (a : Automaton L) (kept : Marks) (bound : kept.bound ≡ length a.finals) (start : slice_get kept.found 0 ≡ Some 0) (all_live : (p : ℕ) (w : List L) → AcceptsFrom a p w → Contains kept.found p) (ok : IsBounded kept)
    (numbers : List (Option ℕ)) (numbering : IsNumbering kept.found numbers) (zero : slice_get numbers 0 ≡ Some (Some 0)) (finals : List Bool) (finals_are : finals ≡ map (λ k. get_or a.finals k false) kept.found)
    (edges : List (Edge L)) (edges_are : (e : Edge L) → Contains edges e ↔ ForSome (IsRenumbered numbers) a.edges e) where
  state_there : (k : ℕ) → Contains kept.found k → k < length a.finals
  state_there k (i, l, e) = subst (λ n. k < n) bound (subst (λ j. j < kept.bound) e (ok.within i k l))

  pub built_letters : (x : L) → UsesLetter (record { edges = edges; finals = finals }) x → UsesLetter a x
  built_letters = trimmed_letters a (record { edges = edges; finals = finals }) kept.found numbers numbering start all_live finals_are state_there edges_are

  pub built_language : (w : List L) → Accepts (record { edges = edges; finals = finals }) w ↔ Accepts a w
  built_language = trimmed_language a (record { edges = edges; finals = finals }) kept.found numbers numbering start all_live finals_are state_there edges_are zero
