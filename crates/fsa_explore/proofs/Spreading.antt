-- A table with a column for each letter, from one with a column for each class of letters.
use Rattle.std.proofs.Common.{◌≡◌, ℕ, ◌+◌, ◌*◌, ◌<◌, List, [], ◌++◌, Bool, Some, All, length, get_or, map, slice_index, subst, sym, ap, inl, inr, arith, ◌∙◌, length-append}
use Rattle.std.specs.List.{slice_get, Contains}
use Rattle.std.specs.Option.{option_map}
use Rattle.std.proofs.lemmas.List.{length-map}
use Rattle.std.proofs.lemmas.List.Elements.{Contains-append_cases, Contains-get_or}
use Rattle.std.proofs.lemmas.Nat.{mul-add-lt}
use Rattle.std.proofs.lemmas.Option.{slice_get_within, slice_get-get_or, slice_get-map, get_or_from_slice_get}
use Rattle.word_relations.proofs.Members.{Contains-nil_cases, Contains-map_cases}
use Rattle.word_relations.proofs.Places.{slice_get-append_left, slice_get-append_right, slice_get_from_Contains, Contains-from_slice_get}
use Rattle.fsa_explore.specs.Alike.{ByClass, IsCounting, IsSpread}
use Rattle.fsa_explore.specs.Explored.{IsExplored}
use Rattle.fsa_explore.proofs.Grouping.{last_or_before}

module _ (next : List ℕ) (count : ℕ) (of_places : List ℕ) where
  pub spread_none : (spread : List ℕ) → spread ≡ [] → IsSpread next count of_places 0 spread
  spread_none spread none = record {
    full = let e = ap length none in let z : 0 * length of_places ≡ 0 = omega arith in omega arith;
    within = λ number h. absurd (Contains-nil_cases number (subst (λ xs. Contains xs number) none h));
    same = λ state place class l at. absurd (omega arith);
  }

  pub spread_more : (state : ℕ) (spread more : List ℕ) → more ≡ spread ++ map (λ class. slice_index next (state * count + class)) of_places → All (λ class. state * count + class < length next) of_places → IsSpread next count of_places state spread → IsSpread next count of_places (state + 1) more
  spread_more state spread more is inside before =
      let at : ℕ → ℕ = λ class. slice_index next (state * count + class) in
      let row : List ℕ = map at of_places in
      let wide : length row ≡ length of_places = length-map of_places at in
      let old : length spread ≡ state * length of_places = before.full in
      record {
        full =
            let long : length more ≡ length spread + length row = ap length is ∙ length-append spread row in
            let product : (state + 1) * length of_places ≡ state * length of_places + length of_places = grind arith in
            omega arith;
        within = λ number h. elim (Contains-append_cases spread row number (subst (λ xs. Contains xs number) is h)) [
          | inl there ↦ before.within number there
          | inr fresh ↦
              let r = Contains-map_cases at of_places number fresh in
              let class : ℕ = r.0 in
              let place = slice_get_from_Contains of_places class r.1 in
              let l = slice_get_within of_places place.0 class place.1 in
              let same : get_or of_places place.0 class ≡ class = get_or_from_slice_get of_places place.0 class class place.1 in
              let there : state * count + class < length next = subst (λ k. state * count + k < length next) same (inside place.0 class l) in
              subst (Contains next) r.2 (Contains-get_or next (state * count + class) 0 there)
        ];
        same = λ s place class l placed.
            let p = slice_get_within of_places place class placed in
            elim (last_or_before state s l) [
              | inl b ↦
                  let below : s * length of_places + place < length spread = let m = mul-add-lt s (length of_places) place state b p in let c : state * length of_places ≡ length of_places * state = grind arith in omega arith in
                  ap (λ xs. slice_get xs (s * length of_places + place)) is ∙ slice_get-append_left spread row (s * length of_places + place) below ∙ before.same s place class b placed
              | inr last ↦
                  let there : state * count + class < length next = subst (λ k. state * count + k < length next) (get_or_from_slice_get of_places place class class placed) (inside place class p) in
                  let index : s * length of_places + place ≡ place + length spread = let c = ap (λ k. k * length of_places) last in omega arith in
                  let here : slice_get more (s * length of_places + place) ≡ Some (at class) =
                  ap (λ xs. slice_get xs (s * length of_places + place)) is ∙ ap (slice_get (spread ++ row)) index ∙ slice_get-append_right spread row place ∙ slice_get-map at of_places place ∙ ap (option_map at) placed in
                  let other : slice_get next (state * count + class) ≡ Some (at class) = slice_get-get_or next (state * count + class) 0 there in
                  here ∙ sym (subst (λ k. slice_get next (k * count + class) ≡ Some (at class)) (sym last) other)
            ];
      }

-- where each row stands
pub row_within : (next : List ℕ) (states count state class : ℕ) → length next ≡ states * count → state < states → class < count → state * count + class < length next
row_within next states count state class full s c = let m = mul-add-lt state count class states s c in let e : states * count ≡ count * states = grind arith in omega arith

-- each letter leads where its class does
pub explored_by_class : (IsState : List ℕ → Type 0) (Leads : List ℕ → ℕ → List ℕ → Type 0) (IsFinal : List ℕ → Type 0) (count : ℕ) (start next : List ℕ) (finals : List Bool) (of_places spread : List ℕ) → All (λ class. class < count) of_places → IsSpread next count of_places (length finals) spread → IsExplored IsState Leads IsFinal count start next finals → IsExplored IsState (ByClass Leads of_places) IsFinal (length of_places) start spread finals
explored_by_class IsState Leads IsFinal count start next finals of_places spread within is built = record {
  lists = built.lists;
  start_first = built.start_first;
  count = built.count;
  full = is.full;
  within = λ k d l.
      let h = is.within (get_or spread k d) (Contains-get_or spread k d l) in
      let place = slice_get_from_Contains next (get_or spread k d) h in
      let there = slice_get_within next place.0 (get_or spread k d) place.1 in
      let e : Some (get_or next place.0 d) ≡ Some (get_or spread k d) = sym (slice_get-get_or next place.0 d there) ∙ place.1 in
      let same : get_or next place.0 d ≡ get_or spread k d = cc in
      subst (λ n. n < length finals) same (built.within place.0 d there);
  states = built.states;
  leads = λ state place number list inside at goes.
      let class : ℕ = get_or of_places place 0 in
      let placed : slice_get of_places place ≡ Some class = slice_get-get_or of_places place 0 inside in
      let listed = slice_get_within built.lists state list at in
      let counted : length finals ≡ length built.lists = built.count in
      let there : state < length finals = omega arith in
      let r = built.leads state class number list (within place 0 inside) at (sym (is.same state place class there placed) ∙ goes) in
      (r.0, r.1, (class, placed, r.2));
  final = built.final;
}

-- an automaton whose lists may do more
pub explored_weaker : (IsState IsState' : List ℕ → Type 0) (Leads Leads' : List ℕ → ℕ → List ℕ → Type 0) (IsFinal : List ℕ → Type 0) (letters : ℕ) (start next : List ℕ) (finals : List Bool) → ((list : List ℕ) → IsState list → IsState' list) → ((list to : List ℕ) (place : ℕ) → place < letters → IsState list → Leads list place to → Leads' list place to) → IsExplored IsState Leads IsFinal letters start next finals → IsExplored IsState' Leads' IsFinal letters start next finals
explored_weaker IsState IsState' Leads Leads' IsFinal letters start next finals f g built = record {
  lists = built.lists;
  start_first = built.start_first;
  count = built.count;
  full = built.full;
  within = built.within;
  states = λ list h. f list (built.states list h);
  leads = λ state place number list inside at goes.
      let r = built.leads state place number list inside at goes in
      (r.0, r.1, g list r.0 place inside (built.states list (Contains-from_slice_get built.lists state list at)) r.2);
  final = built.final;
}

-- classes that are the letters
pub explored_apart : (IsState : List ℕ → Type 0) (Leads : List ℕ → ℕ → List ℕ → Type 0) (IsFinal : List ℕ → Type 0) (start next : List ℕ) (finals : List Bool) (of_places : List ℕ) → IsCounting (length of_places) of_places → IsExplored IsState Leads IsFinal (length of_places) start next finals → IsExplored IsState (ByClass Leads of_places) IsFinal (length of_places) start next finals
explored_apart IsState Leads IsFinal start next finals of_places are built =
    explored_weaker IsState IsState Leads (ByClass Leads of_places) IsFinal (length of_places) start next finals (λ list is. is) (λ list to place l is leads. (place, are.at place l, leads)) built
