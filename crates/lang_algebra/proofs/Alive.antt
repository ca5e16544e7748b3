-- The states from which a final state is reached, and the automaton without the edges into the others.
use Rattle.std.proofs.Common.{◌≡◌, ℕ, ◌+◌, ◌<◌, ◌≤◌, ◌↔◌, List, [], ◌++◌, Bool, true, false, Some, None, length, map, subst, sym, ap, inl, inr, arith, ◌∙◌}
use Rattle.std.specs.Option.{option_to_list}
use Rattle.std.specs.List.{Contains, slice_get}
use Rattle.std.proofs.lemmas.Bool.{cases_lt}
use Rattle.std.proofs.lemmas.Option.{slice_get_within}
use Rattle.std.proofs.lemmas.List.Elements.{Contains-append_left}
use Rattle.word_relations.proofs.Members.{Contains-nil_cases, Contains-map, Contains-map_cases}
use Rattle.word_relations.proofs.Places.{same_at}
use Rattle.fsa.specs.Automaton.{Automaton, IsFinal, IsWellFormed, UsesLetter}
use Rattle.fsa.specs.Language.{AcceptsFrom, Accepts, stop, read, skip}
use Rattle.fsa.specs.declared.automaton.Edge.{Edge}
use Rattle.fsa_explore.specs.Marks.{Marks, Adds}
use Rattle.fsa_explore.specs.Reaches.{Reaches, IsReached, here, along}
use Rattle.fsa_explore.specs.Targets.{AreWithin}
use Rattle.fsa_explore.proofs.Closed.{Reaches-push}
use Rattle.fsa_rational.specs.Shapes.{Extends}
use Rattle.fsa_rational.proofs.Walks.{AcceptsFrom-step}
use Rattle.lang_algebra.specs.Live.{IsLive, IsTrimmed, back}

-- the numbers below the bound are those that were found, of the final states before one
pub record AreFinalsBelow (finals : List Bool) (upto : ℕ) (marks : Marks) : Type 0 where
  pub bound : marks.bound ≡ length finals
  pub states : (k : ℕ) → Contains marks.found k ↔ ((k < upto) × (slice_get finals k ≡ Some true))

pub finals_none : (finals : List Bool) (states : Marks) → states ≡ record { bound = length finals; found = [] } → AreFinalsBelow finals 0 states
finals_none finals states is = record {
  bound = ap (λ m. m.bound) is;
  states = λ k. (
    λ h. absurd (Contains-nil_cases k (subst (λ ks. Contains ks k) (ap (λ m. m.found) is) h)),
    λ p. let l = p.0 in absurd (omega arith),
  );
}

pub finals_more : (finals : List Bool) (i : ℕ) (old new : Marks) → slice_get finals i ≡ Some true → AreFinalsBelow finals i old → Adds old new (λ k. k ≡ i) → AreFinalsBelow finals (i + 1) new
finals_more finals i old new is_final before adds = record {
  bound = adds.grows.bound ∙ before.bound;
  states = λ k. (
    λ h. elim (adds.grows.only k h) [
      | inl held ↦ let p = (before.states k).0 held in let l = p.0 in (omega arith, p.1)
      | inr same ↦ (omega arith, subst (λ j. slice_get finals j ≡ Some true) (sym same) is_final)
    ],
    λ p. elim (cases_lt k i) [
      | inl l ↦ let r = adds.grows.grown in subst (λ ks. Contains ks k) (sym r.1) (Contains-append_left old.found r.0 k ((before.states k).1 (l, p.1)))
      | inr g ↦ let l = p.0 in adds.all k (omega arith)
    ],
  );
}

pub finals_past : (finals : List Bool) (i : ℕ) (states : Marks) → slice_get finals i ≡ Some false → AreFinalsBelow finals i states → AreFinalsBelow finals (i + 1) states
finals_past finals i states other before = record {
  bound = before.bound;
  states = λ k. (
    λ h. let p = (before.states k).0 h in let l = p.0 in (omega arith, p.1),
    λ p. elim (cases_lt k i) [
      | inl l ↦ (before.states k).1 (l, p.1)
      | inr g ↦
          let l = p.0 in
          let same : k ≡ i = omega arith in
          let clash : true ≡ false = same_at finals i true false (subst (λ j. slice_get finals j ≡ Some true) same p.1) other in
          absurd (cc)
    ],
  );
}

pub finals_all : (finals : List Bool) (i : ℕ) (states : Marks) → length finals ≤ i → AreFinalsBelow finals i states → (k : ℕ) → Contains states.found k ↔ (slice_get finals k ≡ Some true)
finals_all finals i states past before k = (
  λ h. ((before.states k).0 h).1,
  λ f. let l = slice_get_within finals k true f in (before.states k).1 (omega arith, f),
)

module _ {L : Type 0} (a : Automaton L) (turned : List (Edge L)) (same : (e : Edge L) → Contains turned e ↔ Contains (map back a.edges) e) where
  -- an edge in the other direction leads on to a state from which a final one is reached
  live_along : {p q : ℕ} → Reaches turned p q → IsLive a p → IsLive a q
  live_along here h = h
  live_along {p} (along {q = q} c rest) (w, path) =
      let r = Contains-map_cases back a.edges (record { from = p; letter = None; to = q }) ((same (record { from = p; letter = None; to = q })).0 c) in
      let e : Edge L = r.0 in
      let to : e.to ≡ p = ap (λ x. x.from) r.2 in
      let from : e.from ≡ q = ap (λ x. x.to) r.2 in
      let step : AcceptsFrom a e.from (option_to_list e.letter ++ w) = AcceptsFrom-step a e w r.1 (subst (λ k. AcceptsFrom a k w) (sym to) path) in
      live_along rest (option_to_list e.letter ++ w, subst (λ k. AcceptsFrom a k (option_to_list e.letter ++ w)) from step)

  turned_edge : (e : Edge L) → Contains a.edges e → Contains turned (back e)
  turned_edge e c = (same (back e)).1 (Contains-map back a.edges e c)

  -- from a final state edges in the other direction lead to each state from which it is reached
  live_reached : {q : ℕ} {w : List L} → AcceptsFrom a q w → (f : ℕ) × IsFinal a f × Reaches turned f q
  live_reached {q} (stop h) = (q, h, here)
  live_reached {q} (read {q = r} {x = x} c rest) =
      let t = live_reached rest in
      (t.0, t.1, Reaches-push turned q t.2 (turned_edge (record { from = q; letter = Some x; to = r }) c))
  live_reached {q} (skip {q = r} c rest) =
      let t = live_reached rest in
      (t.0, t.1, Reaches-push turned q t.2 (turned_edge (record { from = q; letter = None; to = r }) c))

  pub live_found : (old new : Marks) → ((k : ℕ) → Contains old.found k ↔ IsFinal a k) → Adds old new (IsReached turned old.found) → (k : ℕ) → Contains new.found k ↔ IsLive a k
  live_found old new finals adds k = (
    λ h. elim (adds.grows.only k h) [
      | inl held ↦ ([], stop ((finals k).0 held))
      | inr r ↦ live_along r.2 ([], stop ((finals r.0).0 r.1))
    ],
    λ (w, path). let r = live_reached path in adds.all k (r.0, (finals r.0).1 r.1, r.2),
  )

  pub turned_within : IsWellFormed a → (bound : ℕ) → bound ≡ length a.finals → AreWithin turned bound
  turned_within ok bound is e c =
      let r = Contains-map_cases back a.edges e ((same e).0 c) in
      let to : r.0.from ≡ e.to = ap (λ x. x.to) r.2 in
      let inside = (ok.within r.0 r.1).0 in
      omega arith

module _ {L : Type 0} (a m : Automaton L) (part : IsTrimmed a m) where
  pub part_letters : (x : L) → UsesLetter m x → UsesLetter a x
  part_letters x (e, c, is) = (e, ((part.edges e).0 c).0, is)

  part_down : {s : ℕ} {w : List L} → AcceptsFrom m s w → AcceptsFrom a s w
  part_down {s} (stop h) = stop (subst (λ fs. slice_get fs s ≡ Some true) part.finals h)
  part_down {s} (read {q = q} {x = x} c rest) = read ((part.edges (record { from = s; letter = Some x; to = q })).0 c).0 (part_down rest)
  part_down {s} (skip {q = q} c rest) = skip ((part.edges (record { from = s; letter = None; to = q })).0 c).0 (part_down rest)

  part_up : {s : ℕ} {w : List L} → AcceptsFrom a s w → AcceptsFrom m s w
  part_up {s} (stop h) = stop (subst (λ fs. slice_get fs s ≡ Some true) (sym part.finals) h)
  part_up {s} (read {q = q} {x = x} {w = w} c rest) = read ((part.edges (record { from = s; letter = Some x; to = q })).1 (c, (w, rest))) (part_up rest)
  part_up {s} (skip {q = q} {w = w} c rest) = skip ((part.edges (record { from = s; letter = None; to = q })).1 (c, (w, rest))) (part_up rest)

  pub part_language : (w : List L) → Accepts m w ↔ Accepts a w
  part_language w = (part_down, part_up)

-- the edges that enter a state that was found
pub trim_made : {L : Type 0} (a start m : Automaton L) (states : Marks) → start.edges ≡ [] → start.finals ≡ a.finals → ((k : ℕ) → Contains states.found k ↔ IsLive a k) → Extends start m (λ e. Contains a.edges e × Contains states.found e.to) → IsTrimmed a m
trim_made a start m states none finals live made = record {
  finals = made.finals ∙ finals;
  edges = λ e. (
    λ h. elim (made.only e h) [
      | inl held ↦ absurd (Contains-nil_cases e (subst (λ es. Contains es e) none held))
      | inr r ↦ (r.0, (live e.to).0 r.1)
    ],
    λ r. made.all e (r.0, (live e.to).1 r.1),
  );
}

-- the edge is this one, and enters one of the states
abbrev pub EntersOne : {L : Type 0} → List ℕ → Edge L → Edge L → Type 0
EntersOne found x e = (e ≡ x) × Contains found x.to
