-- The path of a word: its steps, each found or added, and its last edge.
use Rattle.std.proofs.Common.{◌≡◌, ℕ, ◌+◌, ◌<◌, ◌≤◌, ◌⊎◌, List, [], ◌∷◌, ◌++◌, false, Option, None, Some, length, refl, subst, sym, ap, inl, inr, arith, append_assoc, append-nil, ◌∙◌}
use Rattle.std.specs.List.{Contains}
use Rattle.std.specs.Option.{option_to_list}
use Rattle.std.proofs.lemmas.List.{length_push}
use Rattle.std.proofs.lemmas.List.Elements.{Contains-push_cases, Contains-push, Contains-append_left}
use Rattle.std.proofs.lemmas.Option.{same_Some}
use Rattle.word_relations.proofs.Members.{Contains-nil_cases}
use Rattle.fsa.specs.Automaton.{Automaton}
use Rattle.fsa.specs.Language.{AcceptsFrom}
use Rattle.fsa.specs.declared.automaton.Edge.{Edge}
use Rattle.fsa_rational.specs.Shapes.{Extends}
use Rattle.fsa_rational.proofs.Extended.{Extends-push}
use Rattle.fsa_rational.proofs.Walks.{AcceptsFrom-step}
use Rattle.flag_diacritics.specs.declared.tape.Tape.{Tape}
use Rattle.lexc_compile.specs.declared.steps.Step.{Step}
use Rattle.lexc_compile.specs.Paths.{PlacedEntry, SomeEntryUses, word as word_of}
use Rattle.lexc_compile.specs.Blocks.{home_of, target_of, IsThere}
use Rattle.lexc_compile.specs.Built.{Inside, front, GoesOn, edge_of, IsFront, IsBuilt, IsTable, TakesStep, IsBuiltWith, Walks, AddsEntry}
use Rattle.lexc_compile.proofs.Growing.{extended, extended_below, extended_from, IsRight, grown, target_within}

-- the state behind a step is one at which that much more of the word is read
record IsTaken (step : Step) (m : Automaton Tape) (steps : List (Step × ℕ)) (new : Automaton Tape) (more : List (Step × ℕ)) (to : ℕ) : Type 0 where
  kept : (e : Edge Tape) → Contains m.edges e → Contains new.edges e
  longer : length m.finals ≤ length new.finals
  there : to < length new.finals
  table : IsTable more new
  edge : Contains new.edges (edge_of (step, to))
  built : (entries : List PlacedEntry) (count root : ℕ) (inside : ℕ → Inside) (origin : Option ℕ) (word : List Tape)
      → SomeEntryUses (Contains entries) step.letter → IsBuilt entries count root inside m steps → inside step.from ≡ front origin word
      → IsBuiltWith entries count root new more to (front origin (word ++ step.letter ∷ []))

module _ (step : Step) (m : Automaton Tape) (steps : List (Step × ℕ)) (to : ℕ) where
  taken_found : IsTable steps m → Contains steps (step, to) → IsTaken step m steps m steps to
  taken_found table held = record {
    kept = λ e h. h;
    longer = omega arith;
    there = (table (step, to) held).1;
    table = table;
    edge = (table (step, to) held).0;
    built = λ entries count root inside origin word used is at.
        let r = is.fronts (step, to) held in
        let same : front r.0 r.1 ≡ front origin word = sym r.2 ∙ at in
        let origins : r.0 ≡ origin = cc in
        let words : r.1 ≡ word = cc in
        (inside, is, r.3 ∙ ap (λ o. front o (r.1 ++ step.letter ∷ [])) origins ∙ ap (λ w. front origin (w ++ step.letter ∷ [])) words);
  }

  module _ (new : Automaton Tape) (more : List (Step × ℕ)) (from : step.from < length m.finals) (number : to ≡ length m.finals)
      (new_is : new ≡ record { edges = m.edges ++ edge_of (step, to) ∷ []; finals = m.finals ++ false ∷ [] })
      (rows : (row : Step × ℕ) → Contains more row → Contains steps row ⊎ (row ≡ (step, to))) where
    finals : new.finals ≡ m.finals ++ false ∷ []
    finals = ap (λ (a : Automaton Tape). a.finals) new_is

    edges : new.edges ≡ m.edges ++ edge_of (step, to) ∷ []
    edges = ap (λ (a : Automaton Tape). a.edges) new_is

    long : length new.finals ≡ length m.finals + 1
    long = ap length finals ∙ length_push m.finals false

    kept_all : (e : Edge Tape) → Contains m.edges e → Contains new.edges e
    kept_all e h = subst (λ es. Contains es e) (sym edges) (Contains-append_left m.edges (edge_of (step, to) ∷ []) e h)

    made : Contains new.edges (edge_of (step, to))
    made = subst (λ es. Contains es (edge_of (step, to))) (sym edges) (Contains-push m.edges (edge_of (step, to)))

    only : (e : Edge Tape) → Contains new.edges e → Contains m.edges e ⊎ (edge_of (step, to) ≡ e)
    only e h = Contains-push_cases m.edges (edge_of (step, to)) e (subst (λ es. Contains es e) edges h)

    module _ (entries : List PlacedEntry) (count root : ℕ) (inside : ℕ → Inside) (origin : Option ℕ) (word : List Tape)
        (used : SomeEntryUses (Contains entries) step.letter) (is : IsBuilt entries count root inside m steps) (at : inside step.from ≡ front origin word) where
      abbrev around : ℕ → Inside
      around = extended inside (length m.finals) (λ p. front origin (word ++ step.letter ∷ []))

      from_is : around step.from ≡ front origin word
      from_is = extended_below inside (length m.finals) (λ p. front origin (word ++ step.letter ∷ [])) step.from from ∙ at

      to_is : around to ≡ front origin (word ++ step.letter ∷ [])
      to_is = extended_from inside (length m.finals) (λ p. front origin (word ++ step.letter ∷ [])) to (omega arith)

      right : IsRight entries around new (edge_of (step, to))
      right =
          let l = long in (
            omega arith,
            omega arith,
            subst (λ d. GoesOn entries d (Some step.letter) (around to)) (sym from_is)
                (subst (λ d. GoesOn entries (front origin word) (Some step.letter) d) (sym to_is) (inl (refl, λ x read. ap (λ v. v ++ step.letter ∷ []) read))),
            λ x reads. subst (λ y. SomeEntryUses (Contains entries) y) (same_Some step.letter x reads) used,
          )

      built_made : IsBuiltWith entries count root new more to (front origin (word ++ step.letter ∷ []))
      built_made = (
        around,
        grown entries count root inside m steps is 1 around new more (λ p l. extended_below inside (length m.finals) (λ q. front origin (word ++ step.letter ∷ [])) p l) finals kept_all
            (λ e h. elim (only e h) [ inl old ↦ inl old | inr same ↦ inr (subst (λ f. IsRight entries around new f) same right) ])
            (λ row h. elim (rows row h) [
              | inl old ↦ inl old
              | inr same ↦ inr (subst (λ r. Contains new.edges (edge_of r) × IsFront around r) (sym same) (made, (origin, word, from_is, to_is)))
            ]),
        to_is,
      )

    taken_made : IsTable steps m → IsTaken step m steps new more to
    taken_made table = record {
      kept = kept_all;
      longer = let l = long in omega arith;
      there = let l = long in omega arith;
      table = λ row h. elim (rows row h) [
        | inl old ↦ let r = table row old in let l = long in (kept_all (edge_of row) r.0, omega arith)
        | inr same ↦ subst (λ r. Contains new.edges (edge_of r) × (r.1 < length new.finals)) (sym same) (let l = long in (made, omega arith))
      ];
      edge = made;
      built = built_made;
    }

  taken : (new : Automaton Tape) (more : List (Step × ℕ)) → step.from < length m.finals → IsTable steps m → TakesStep step m steps new more to → IsTaken step m steps new more to
  taken new more from table (inl (new_is, more_is, held)) =
      subst (λ a. IsTaken step m steps a more to) (sym new_is) (subst (λ t. IsTaken step m steps m t to) (sym more_is) (taken_found table held))
  taken new more from table (inr (never, number, new_is, more_is)) =
      taken_made new more from number new_is
      (λ row h. elim (Contains-push_cases steps (step, to) row (subst (λ rows. Contains rows row) more_is h)) [ inl old ↦ inl old | inr made ↦ inr (sym made) ])
      table

-- no step, and one step more
pub walks_none : (from : ℕ) (m : Automaton Tape) (steps : List (Step × ℕ)) → from < length m.finals → IsTable steps m → Walks from [] m steps m steps from
walks_none from m steps there table = record {
  kept = λ e h. h;
  longer = omega arith;
  there = there;
  table = table;
  leads = λ more f rest accepted. accepted;
  built = λ entries count root inside origin word used is at. (inside, is, at ∙ ap (λ w. front origin w) (sym (append-nil word)));
}

pub walks_more : (from : ℕ) (tape : List Tape) (letter : Tape) (m now new : Automaton Tape) (steps then more : List (Step × ℕ)) (at to : ℕ)
    → Walks from tape m steps now then at → TakesStep (record { from = at; letter = letter }) now then new more to → Walks from (tape ++ letter ∷ []) m steps new more to
walks_more from tape letter m now new steps then more at to before takes =
    let one : IsTaken (record { from = at; letter = letter }) now then new more to = taken (record { from = at; letter = letter }) now then to new more before.there before.table takes in
    let longer = before.longer in
    let longer_then = one.longer in
    record {
      kept = λ f h. one.kept f (before.kept f h);
      longer = omega arith;
      there = one.there;
      table = one.table;
      leads = λ beyond f rest accepted.
          subst (λ v. AcceptsFrom beyond from v) (sym (append_assoc tape (letter ∷ []) rest))
          (before.leads beyond (λ g h. f g (one.kept g h)) (letter ∷ rest)
          (AcceptsFrom-step beyond (edge_of (record { from = at; letter = letter }, to)) rest (f (edge_of (record { from = at; letter = letter }, to)) one.edge) accepted));
      built = λ entries count root inside origin word used is from_is.
          let r = before.built entries count root inside origin word (λ x h. used x (Contains-append_left tape (letter ∷ []) x h)) is from_is in
          let s = one.built entries count root r.0 origin (word ++ tape) (used letter (Contains-push tape letter)) r.1 r.2 in
          (s.0, s.1, s.2 ∙ ap (λ w. front origin w) (append_assoc word tape (letter ∷ [])));
    }

-- the last edge, which reads what is left of the tape
module _ (count place : ℕ) (tape : List Tape) (next : Option ℕ) (there : place < count) (goes_on : IsThere count next) (front_part : List Tape) (letter : Option Tape)
    (m now new : Automaton Tape) (steps more : List (Step × ℕ)) (at : ℕ)
    (walk : Walks (home_of place) front_part m steps now more at)
    (new_is : new ≡ record now { edges = now.edges ++ record { from = at; letter = letter; to = target_of count next } ∷ [] })
    (held : (x : Tape) → Contains front_part x → Contains tape x)
    (uses : (x : Tape) → letter ≡ Some x → Contains tape x)
    (said : tape ≡ front_part ++ option_to_list letter) where
  abbrev added : PlacedEntry
  added = record { place = place; content = word_of tape; next = next }

  extends : Extends now new (λ e. e ≡ record { from = at; letter = letter; to = target_of count next })
  extends = Extends-push now new (record { from = at; letter = letter; to = target_of count next }) new_is

  built_word : (entries : List PlacedEntry) (root : ℕ) (inside : ℕ → Inside)
      → Contains entries (record { place = place; content = word_of tape; next = next }) → IsBuilt entries count root inside m steps → (around : ℕ → Inside) × IsBuilt entries count root around new more
  built_word entries root inside member is =
      let home : inside (home_of place) ≡ front (Some place) [] = is.targets (Some place) there in
      let r = walk.built entries count root inside (Some place) [] (λ x h. (added, member, held x h)) is home in
      let target : r.0 (target_of count next) ≡ front next [] = (r.1).targets next goes_on in
      let reached : target_of count next < length now.finals = target_within entries count root r.0 now more r.1 next goes_on in
      let goes : GoesOn entries (r.0 at) letter (r.0 (target_of count next)) =
      subst (λ d. GoesOn entries d letter (r.0 (target_of count next))) (sym r.2)
      (subst (λ d. GoesOn entries (front (Some place) front_part) letter d) (sym target)
      (inr (added, refl, member, refl, λ x read. ap (λ v. v ++ option_to_list letter) read ∙ sym said))) in
      let at_there = walk.there in
      let finals : new.finals ≡ now.finals = extends.finals in
      let long : length new.finals ≡ length now.finals = ap length finals in (
        r.0,
        grown entries count root r.0 now more r.1 0 r.0 new more (λ p l. refl) (finals ∙ sym (append-nil now.finals)) extends.kept
            (λ e h. elim (extends.only e h) [
              | inl old ↦ inl old
              | inr same ↦ inr (subst (λ f. IsRight entries r.0 new f) (sym same) (omega arith, omega arith, goes, λ x reads. (added, member, uses x reads)))
            ])
            (λ row h. inl h),
      )

  pub adds_word : AddsEntry count (record { place = place; content = word_of tape; next = next }) m steps new more
  adds_word = record {
    kept = λ e h. extends.kept e (walk.kept e h);
    has = λ w adds beyond f rest goes.
        subst (λ v. AcceptsFrom beyond (home_of place) v) (sym (append_assoc front_part (option_to_list letter) rest) ∙ ap (λ v. v ++ rest) (sym (adds ∙ said)))
        (walk.leads beyond (λ e h. f e (extends.kept e h)) (option_to_list letter ++ rest)
        (AcceptsFrom-step beyond (record { from = at; letter = letter; to = target_of count next }) rest
        (f (record { from = at; letter = letter; to = target_of count next }) (extends.all (record { from = at; letter = letter; to = target_of count next }) refl)) goes));
    built = built_word;
  }

module _ (count place : ℕ) (tape : List Tape) (next : Option ℕ) (there : place < count) (goes_on : IsThere count next) (to : ℕ) (target : to ≡ target_of count next)
    (m new : Automaton Tape) (steps : List (Step × ℕ)) where
  -- the path of a word
  pub word_added : (rest : List Tape) (last : Tape) (now : Automaton Tape) (more : List (Step × ℕ)) (at : ℕ)
      → tape ≡ rest ++ last ∷ [] → Walks (home_of place) rest m steps now more at
      → new ≡ record now { edges = now.edges ++ record { from = at; letter = Some last; to = to } ∷ [] }
      → AddsEntry count (record { place = place; content = word_of tape; next = next }) m steps new more
  word_added rest last now more at all walk new_is =
      adds_word count place tape next there goes_on rest (Some last) m now new steps more at walk
      (subst (λ q. new ≡ record now { edges = now.edges ++ record { from = at; letter = Some last; to = q } ∷ [] }) target new_is)
      (λ x h. subst (λ xs. Contains xs x) (sym all) (Contains-append_left rest (last ∷ []) x h))
      (λ x reads. subst (λ xs. Contains xs x) (sym all) (subst (λ y. Contains (rest ++ last ∷ []) y) (same_Some last x reads) (Contains-push rest last)))
      all

  -- the path of the empty word
  pub empty_added : tape ≡ [] → home_of place < length m.finals → IsTable steps m
      → new ≡ record m { edges = m.edges ++ record { from = home_of place; letter = None; to = to } ∷ [] }
      → AddsEntry count (record { place = place; content = word_of tape; next = next }) m steps new steps
  empty_added none home table new_is =
      adds_word count place tape next there goes_on [] None m m new steps steps (home_of place) (walks_none (home_of place) m steps home table)
      (subst (λ q. new ≡ record m { edges = m.edges ++ record { from = home_of place; letter = None; to = q } ∷ [] }) target new_is)
      (λ x h. absurd (Contains-nil_cases x h)) (λ x reads. absurd (cc))
      none
