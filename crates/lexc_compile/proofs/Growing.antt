-- What is read on the way to each state, as states and edges are added.
use Rattle.std.proofs.Common.{◌≡◌, ℕ, zero, suc, ◌+◌, ◌<◌, ◌≤◌, ◌⊎◌, ◌↔◌, List, [], ◌∷◌, ◌++◌, true, false, cond, ltb, Option, None, Some, replicate, length, refl, subst, sym, ap, inl, inr, arith, length-append, add-one, ◌∙◌}
use Rattle.std.specs.List.{Contains, slice_get}
use Rattle.std.proofs.lemmas.Bool.{cond-true, cond-false, lt-ltb, le-ltb}
use Rattle.std.proofs.lemmas.List.{length_push, length-replicate}
use Rattle.std.proofs.lemmas.Option.{slice_get_within}
use Rattle.word_relations.proofs.Members.{Contains-nil_cases}
use Rattle.word_relations.proofs.Places.{slice_get-append_left, slice_get-append_cases, slice_get-push}
use Rattle.fsa.specs.Automaton.{Automaton, IsFinal}
use Rattle.fsa.specs.declared.automaton.Edge.{Edge}
use Rattle.fsa_rational.specs.Shapes.{epsilon, Extends}
use Rattle.fsa_rational.proofs.Walks.{unmarked_states, one_more_states}
use Rattle.flag_diacritics.specs.declared.tape.Tape.{Tape}
use Rattle.lexc_compile.specs.declared.steps.Step.{Step}
use Rattle.lexc_compile.specs.Paths.{PlacedEntry, SomeEntryUses}
use Rattle.lexc_compile.specs.Blocks.{home_of, target_of, IsThere}
use Rattle.lexc_compile.specs.Built.{Inside, front, GoesOn, edge_of, IsFront, IsBuilt}

-- what is read at the first so many states, and at those behind them
abbrev pub extended : (ℕ → Inside) → ℕ → (ℕ → Inside) → ℕ → Inside
extended inside n more p = cond (ltb p n) (inside p) (more p)

pub extended_below : (inside : ℕ → Inside) (n : ℕ) (more : ℕ → Inside) (p : ℕ) → p < n → extended inside n more p ≡ inside p
extended_below inside n more p l = cond-true (ltb p n) (inside p) (more p) (lt-ltb p n l)

pub extended_from : (inside : ℕ → Inside) (n : ℕ) (more : ℕ → Inside) (p : ℕ) → n ≤ p → extended inside n more p ≡ more p
extended_from inside n more p l = cond-false (ltb p n) (inside p) (more p) (le-ltb p n l)

-- the edge may be added
abbrev pub IsRight : List PlacedEntry → (ℕ → Inside) → Automaton Tape → Edge Tape → Type 0
IsRight entries inside m e =
    (e.from < length m.finals) × (e.to < length m.finals) × GoesOn entries (inside e.from) e.letter (inside e.to) × ((x : Tape) → e.letter ≡ Some x → SomeEntryUses (Contains entries) x)

module _ (entries : List PlacedEntry) (count root : ℕ) (inside : ℕ → Inside) (m : Automaton Tape) (steps : List (Step × ℕ)) (is : IsBuilt entries count root inside m steps) where
  pub target_within : (next : Option ℕ) → IsThere count next → target_of count next < length m.finals
  target_within None there = let h = is.homes in omega arith
  target_within (Some place) there = let h = is.homes in omega arith

  module _ (n : ℕ) (around : ℕ → Inside) (new : Automaton Tape) (more : List (Step × ℕ)) (same : (p : ℕ) → p < length m.finals → around p ≡ inside p)
      (finals : new.finals ≡ m.finals ++ replicate n false)
      (kept : (e : Edge Tape) → Contains m.edges e → Contains new.edges e)
      (only : (e : Edge Tape) → Contains new.edges e → Contains m.edges e ⊎ IsRight entries around new e)
      (rows : (row : Step × ℕ) → Contains more row → Contains steps row ⊎ (Contains new.edges (edge_of row) × IsFront around row)) where
    long : length new.finals ≡ length m.finals + n
    long = ap length finals ∙ length-append m.finals (replicate n false) ∙ ap (λ k. length m.finals + k) (length-replicate n false)

    final_more : (p : ℕ) → IsFinal new p ↔ (p ≡ count + 1)
    final_more p = (
      λ h. elim (slice_get-append_cases m.finals (replicate n false) p true (ap (λ fs. slice_get fs p) (sym finals) ∙ h)) [
        | inl old ↦ (is.final p).0 old
        | inr r ↦ absurd (unmarked_states n r.0 r.2)
      ],
      λ at_end.
          let old : IsFinal m p = (is.final p).1 at_end in
          ap (λ fs. slice_get fs p) finals ∙ slice_get-append_left m.finals (replicate n false) p (slice_get_within m.finals p true old) ∙ old,
    )

    follows_old : (e : Edge Tape) → Contains m.edges e → GoesOn entries (around e.from) e.letter (around e.to)
    follows_old e h =
        let ends = is.formed.within e h in
        subst (λ d. GoesOn entries d e.letter (around e.to)) (sym (same e.from ends.0))
        (subst (λ d. GoesOn entries (inside e.from) e.letter d) (sym (same e.to ends.1)) (is.follows e h))

    front_old : (row : Step × ℕ) → Contains steps row → IsFront around row
    front_old row h =
        let ends = is.formed.within (edge_of row) (is.taken row h) in
        let r = is.fronts row h in
        (r.0, r.1, same (row.0).from ends.0 ∙ r.2, same row.1 ends.1 ∙ r.3)

    pub grown : IsBuilt entries count root around new more
    grown = record {
      formed = record {
        start = let s = is.formed.start in let l = long in omega arith;
        within = λ e h. elim (only e h) [ inl old ↦ let ends = is.formed.within e old in let l = long in (omega arith, omega arith) | inr r ↦ (r.0, r.1) ];
      };
      homes = let s = is.homes in let l = long in omega arith;
      final = final_more;
      first = kept (epsilon 0 (home_of root)) is.first;
      start = same 0 is.formed.start ∙ is.start;
      targets = λ next there. same (target_of count next) (target_within next there) ∙ is.targets next there;
      follows = λ e h. elim (only e h) [ inl old ↦ follows_old e old | inr r ↦ r.2 ];
      letters = λ e h. elim (only e h) [ inl old ↦ is.letters e old | inr r ↦ r.3 ];
      taken = λ row h. elim (rows row h) [ inl old ↦ kept (edge_of row) (is.taken row old) | inr r ↦ r.0 ];
      fronts = λ row h. elim (rows row h) [ inl old ↦ front_old row old | inr r ↦ r.1 ];
    }

-- at the start what follows is of the root lexicon, then come the lexicons, and the end
abbrev pub homes_read : ℕ → ℕ → ℕ → Inside
homes_read count root zero = front (Some root) []
homes_read count root (suc k) = cond (ltb k count) (front (Some k) []) (front None [])

module _ (count root : ℕ) where
  targets_read : (next : Option ℕ) → IsThere count next → homes_read count root (target_of count next) ≡ front next []
  targets_read None there = ap (homes_read count root) (add-one count) ∙ cond-false (ltb count count) (front (Some count) []) (front None []) (le-ltb count count (omega arith))
  targets_read (Some k) there = ap (homes_read count root) (add-one k) ∙ cond-true (ltb k count) (front (Some k) []) (front None []) (lt-ltb k count there)

  unmarked_others : (p : ℕ) → slice_get (replicate count false ++ false ∷ []) p ≡ Some true → ⊥
  unmarked_others p h = elim (slice_get-append_cases (replicate count false) (false ∷ []) p true h) [ inl begin ↦ unmarked_states count p begin | inr r ↦ last r.0 r.2 ]
    where
      last : (j : ℕ) → slice_get (false ∷ []) j ≡ Some true → ⊥
      last zero f = cc
      last (suc j) f = cc

  -- the end alone is final
  pub end_alone : (p : ℕ) → (slice_get ((replicate count false ++ false ∷ []) ++ true ∷ []) p ≡ Some true) ↔ (p ≡ count + 1)
  end_alone p = (
    λ h. elim (slice_get-append_cases (replicate count false ++ false ∷ []) (true ∷ []) p true h) [
      | inl begin ↦ absurd (unmarked_others p begin)
      | inr r ↦ last r.0 r.1 r.2
    ],
    λ same.
        let here : count + 1 ≡ length (replicate count false ++ false ∷ []) = sym (one_more_states count) in
        subst (λ k. slice_get ((replicate count false ++ false ∷ []) ++ true ∷ []) k ≡ Some true) (sym (same ∙ here)) (slice_get-push (replicate count false ++ false ∷ []) true),
  )
    where
      last : (j : ℕ) → p ≡ j + length (replicate count false ++ false ∷ []) → slice_get (true ∷ []) j ≡ Some true → p ≡ count + 1
      last zero at f = let long = one_more_states count in omega arith
      last (suc j) at f = cc

-- before any entry
pub built_none : (entries : List PlacedEntry) (count root : ℕ) → root < count → (m new : Automaton Tape)
    → m ≡ record { edges = []; finals = (replicate count false ++ false ∷ []) ++ true ∷ [] } → Extends m new (λ e. e ≡ epsilon 0 (home_of root))
    → IsBuilt entries count root (homes_read count root) new []
built_none entries count root root_there m new is extends =
    let finals : new.finals ≡ (replicate count false ++ false ∷ []) ++ true ∷ [] = extends.finals ∙ ap (λ (a : Automaton Tape). a.finals) is in
    let none : m.edges ≡ [] = ap (λ (a : Automaton Tape). a.edges) is in
    let long : length new.finals ≡ length (replicate count false ++ false ∷ []) + 1 = ap length finals ∙ length_push (replicate count false ++ false ∷ []) true in
    let begin = one_more_states count in
    let one : (e : Edge Tape) → Contains new.edges e → epsilon 0 (home_of root) ≡ e =
    λ e h. elim (extends.only e h) [ inl held ↦ absurd (Contains-nil_cases e (subst (λ es. Contains es e) none held)) | inr same ↦ sym same ] in
    record {
      formed = record {
        start = omega arith;
        within = λ e h. subst (λ (f : Edge Tape). (f.from < length new.finals) × (f.to < length new.finals)) (one e h) (omega arith, omega arith);
      };
      homes = omega arith;
      final = λ p. subst (λ fs. (slice_get fs p ≡ Some true) ↔ (p ≡ count + 1)) (sym finals) (end_alone count root p);
      first = extends.all (epsilon 0 (home_of root)) refl;
      start = refl;
      targets = targets_read count root;
      follows = λ e h.
          subst (λ (f : Edge Tape). GoesOn entries (homes_read count root f.from) f.letter (homes_read count root f.to)) (one e h)
          (subst (λ d. GoesOn entries (front (Some root) []) None d) (sym (targets_read count root (Some root) root_there)) (inl (refl, λ x read. ap (λ v. v ++ []) read)));
      letters = λ e h x reads. let clash : None ≡ Some x = ap (λ (f : Edge Tape). f.letter) (one e h) ∙ reads in absurd (cc);
      taken = λ row h. absurd (Contains-nil_cases row h);
      fronts = λ row h. absurd (Contains-nil_cases row h);
    }

-- it stays as it is to be where there are more entries
module _ (entries more : List PlacedEntry) (all : (entry : PlacedEntry) → Contains entries entry → Contains more entry) where
  goes_with_more : (before after : Inside) (letter : Option Tape) → GoesOn entries before letter after → GoesOn more before letter after
  goes_with_more before after letter (inl stays) = inl stays
  goes_with_more before after letter (inr (entry, origin, held, is, adds)) = inr (entry, origin, all entry held, is, adds)

  pub built_with_more : (count root : ℕ) (inside : ℕ → Inside) (m : Automaton Tape) (steps : List (Step × ℕ)) → IsBuilt entries count root inside m steps → IsBuilt more count root inside m steps
  built_with_more count root inside m steps is = record {
    formed = is.formed;
    homes = is.homes;
    final = is.final;
    first = is.first;
    start = is.start;
    targets = is.targets;
    follows = λ e h. goes_with_more (inside e.from) (inside e.to) e.letter (is.follows e h);
    letters = λ e h x reads. let (entry, held, uses) = is.letters e h x reads in (entry, all entry held, uses);
    taken = is.taken;
    fronts = is.fronts;
  }
