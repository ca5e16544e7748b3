-- The entries of lists of lexicons, given one after another.
use Rattle.std.proofs.Common.{◌≡◌, ◌↔◌, ℕ, ◌+◌, ◌<◌, ◌≤◌, ◌⊎◌, List, [], ◌∷◌, ◌++◌, Option, None, Some, get_or, take, length, refl, subst, sym, ap, inl, inr, arith, ◌∙◌}
use Rattle.std.specs.List.{Contains, slice_get}
use Rattle.std.proofs.lemmas.Bool.{cases_lt}
use Rattle.std.proofs.lemmas.List.{take_more, take_all}
use Rattle.std.proofs.lemmas.List.Elements.{Contains-append_left, Contains-push, Contains-push_cases}
use Rattle.std.proofs.lemmas.Option.{slice_get_within}
use Rattle.word_relations.proofs.Members.{Contains-nil_cases}
use Rattle.word_relations.proofs.Places.{same_at}
use Rattle.flag_diacritics.specs.declared.tape.Tape.{Tape}
use Rattle.lexc_compile.specs.declared.entry.LexEntry.{LexEntry}
use Rattle.lexc_compile.specs.Paths.{Adds, HasPath, IsEntryOf, IsPath, PlacedEntry, SomeEntryUses, network}
use Rattle.lexc_compile.specs.Blocks.{IsThere}
use Rattle.lexc_compile.specs.Growing.{GivesEntry, Growing, IsBegun, IsGiven, IsSame}
use Rattle.lexc_compile.proofs.Language.{same_paths}

-- the entry of the lexicon at this place, and it may be on a path
abbrev pub IsUsed : List (List LexEntry) → ℕ → LexEntry → Type 0
IsUsed lexicons place entry = (entries : List LexEntry) × (slice_get lexicons place ≡ Some entries) × Contains entries entry × IsThere (length lexicons) entry.next

-- what was given for it
abbrev pub IsFor : ℕ → LexEntry → PlacedEntry → Type 0
IsFor place entry given = (given.place ≡ place) × (given.next ≡ entry.next) × IsSame given.content entry.net

-- what was given is of the lexicons, and has the entries that pass the test
pub record HasEach (lexicons : List (List LexEntry)) (root : ℕ) (P : ℕ → LexEntry → Type 0) (growing : Growing) : Type 0 where
  pub entries : List PlacedEntry
  pub given : IsGiven root entries growing
  pub count : growing.count ≡ length lexicons
  pub only : (e : PlacedEntry) → Contains entries e → (entry : LexEntry) × IsUsed lexicons e.place entry × IsFor e.place entry e
  pub all : (place : ℕ) (entry : LexEntry) → P place entry → (e : PlacedEntry) × Contains entries e × IsFor place entry e

-- the entries of the lexicons before a place, and so many of the one there
abbrev pub Before : List (List LexEntry) → ℕ → ℕ → LexEntry → Type 0
Before lexicons place k e = (k < place) × IsUsed lexicons k e

abbrev pub Upto : List (List LexEntry) → ℕ → List LexEntry → ℕ → ℕ → LexEntry → Type 0
Upto lexicons place entries i k e = Before lexicons place k e ⊎ ((k ≡ place) × Contains (take i entries) e × IsThere (length lexicons) e.next)

module _ (lexicons : List (List LexEntry)) (root : ℕ) (growing : Growing) where
  has_fewer : (P Q : ℕ → LexEntry → Type 0) → ((k : ℕ) (e : LexEntry) → Q k e → P k e) → HasEach lexicons root P growing → HasEach lexicons root Q growing
  has_fewer P Q f is = record { entries = is.entries; given = is.given; count = is.count; only = is.only; all = λ k e q. is.all k e (f k e q) }

  pub has_begun : (P : ℕ → LexEntry → Type 0) → HasEach lexicons root P growing → IsBegun growing
  has_begun P is = (root, is.entries, is.given)

  pub all_before : (i : ℕ) → length lexicons ≤ i → HasEach lexicons root (Before lexicons i) growing → HasEach lexicons root (IsUsed lexicons) growing
  all_before i past is =
      has_fewer (Before lexicons i) (IsUsed lexicons) (λ k e h. let l = slice_get_within lexicons k h.0 h.1 in (omega arith, h)) is

  module _ (place : ℕ) (entries : List LexEntry) where
    pub entries_none : HasEach lexicons root (Before lexicons place) growing → HasEach lexicons root (Upto lexicons place entries 0) growing
    entries_none is =
        has_fewer (Before lexicons place) (Upto lexicons place entries 0) (λ k e h. elim h [ inl old ↦ old | inr none ↦ absurd (Contains-nil_cases e none.1) ]) is

    module _ (i : ℕ) (entry : LexEntry) (within : i < length entries) (at : entry ≡ get_or entries i entry) (before : HasEach lexicons root (Upto lexicons place entries i) growing) where
      front : take (i + 1) entries ≡ take i entries ++ entry ∷ []
      front = take_more entries i entry within ∙ ap (λ y. take i entries ++ y ∷ []) (sym at)

      held_cases : (e : LexEntry) → Contains (take (i + 1) entries) e → Contains (take i entries) e ⊎ (entry ≡ e)
      held_cases e held = Contains-push_cases (take i entries) entry e (subst (λ es. Contains es e) front held)

      pub entries_more : slice_get lexicons place ≡ Some entries → (new : Growing) → IsThere (length lexicons) entry.next → GivesEntry place entry growing new
          → HasEach lexicons root (Upto lexicons place entries (i + 1)) new
      entries_more here new there (content, same, gives) =
          let added : PlacedEntry = record { place = place; content = content; next = entry.next } in
          let is_for : IsFor place entry added = (refl, refl, same) in
          record {
            entries = before.entries ++ added ∷ [];
            given = gives.1 root before.entries before.given;
            count = gives.0 ∙ before.count;
            only = λ e h. elim (Contains-push_cases before.entries added e h) [
              | inl old ↦ before.only e old
              | inr made ↦ subst (λ (d : PlacedEntry). (x : LexEntry) × IsUsed lexicons d.place x × IsFor d.place x d) made (entry, (entries, here, (i, within, sym at), there), is_for)
            ];
            all = λ k e h. elim h [
              | inl old ↦ older k e (inl old)
              | inr r ↦ elim (held_cases e r.1) [
                | inl held ↦ older k e (inr (r.0, held, r.2))
                | inr it ↦ (added, Contains-push before.entries added, subst (λ j. IsFor j e added) (sym r.0) (subst (λ x. IsFor place x added) it is_for))
              ]
            ];
          }
        where
          older : (k : ℕ) (e : LexEntry) → Upto lexicons place entries i k e → (d : PlacedEntry) × Contains (before.entries ++ record { place = place; content = content; next = entry.next } ∷ []) d × IsFor k e d
          older k e h = let r = before.all k e h in (r.0, Contains-append_left before.entries (record { place = place; content = content; next = entry.next } ∷ []) r.0 r.1, r.2)

      pub entries_past : (IsThere (length lexicons) entry.next → ⊥) → HasEach lexicons root (Upto lexicons place entries (i + 1)) growing
      entries_past never =
          has_fewer (Upto lexicons place entries i) (Upto lexicons place entries (i + 1))
          (λ k e h. elim h [
            | inl old ↦ inl old
            | inr r ↦ elim (held_cases e r.1) [ inl held ↦ inr (r.0, held, r.2) | inr same ↦ absurd (never (subst (λ (x : LexEntry). IsThere (length lexicons) x.next) (sym same) r.2)) ]
          ])
          before

    pub entries_all : slice_get lexicons place ≡ Some entries → (i : ℕ) → length entries ≤ i
        → HasEach lexicons root (Upto lexicons place entries i) growing → HasEach lexicons root (Before lexicons (place + 1)) growing
    entries_all at i past is =
        has_fewer (Upto lexicons place entries i) (Before lexicons (place + 1))
        (λ k e h. elim (cases_lt k place) [
          | inl before ↦ inl (before, h.1)
          | inr after ↦
              let l = h.0 in
              let here : k ≡ place = omega arith in
              let r = subst (λ j. IsUsed lexicons j e) here h.1 in
              let same : r.0 ≡ entries = same_at lexicons place r.0 entries r.1 at in
              inr (here, subst (λ es. Contains es e) (sym (take_all i entries past)) (subst (λ es. Contains es e) same r.2), r.3)
        ])
        is

-- what is accepted once all are given
module _ (lexicons : List (List LexEntry)) (root : ℕ) (growing : Growing) (is : HasEach lexicons root (IsUsed lexicons) growing) where
  abbrev IsUsedEntry : PlacedEntry → Type 0
  IsUsedEntry e = IsEntryOf lexicons e × IsThere (length lexicons) e.next

  -- the entries of a path are used
  path_used : (path : List PlacedEntry) (from : Option ℕ) (w : List Tape) → IsPath (IsEntryOf lexicons) from path w → IsThere (length lexicons) from × IsPath IsUsedEntry from path w
  path_used [] None w none = (tt, none)
  path_used [] (Some k) w none = absurd none
  path_used (entry ∷ path) None w none = absurd none
  path_used (entry ∷ path) (Some k) w (begin, rest, member, here, adds, next, joined) =
      let back = path_used path entry.next rest next in
      let there = slice_get_within lexicons entry.place member.0 member.2 in
      (subst (λ j. j < length lexicons) here there, (begin, rest, (member, back.0), here, adds, back.1, joined))

  pub each_language : (tape : List Tape) → HasPath (Contains is.entries) (Some root) tape ↔ HasPath (IsEntryOf lexicons) (Some root) tape
  each_language tape = (
    same_paths (Contains is.entries) (IsEntryOf lexicons)
        (λ e h.
        let r = is.only e h in
        let entry : LexEntry = r.0 in
        let (entries, at, held, there) = r.1 in
        let (here, next, same) = r.2 in
        (record { place = e.place; content = network entry.net; next = entry.next }, (entries, entry, at, held, refl, refl), refl, sym next, λ x a. (same.adds x).0 a))
        (Some root) tape,
    λ (path, along).
        same_paths IsUsedEntry (Contains is.entries)
        (λ e h.
        let (entries, entry, at, held, content, goes_on) = h.0 in
        let r = is.all e.place entry (entries, at, held, subst (λ n. IsThere (length lexicons) n) goes_on h.1) in
        let (here, next, same) = r.2 in
        (r.0, r.1, here, next ∙ sym goes_on, λ x a. (same.adds x).1 (subst (λ c. Adds c x) content a)))
        (Some root) tape (path, (path_used path (Some root) tape along).1),
  )

  pub each_letters : (x : Tape) → SomeEntryUses (Contains is.entries) x → SomeEntryUses (IsEntryOf lexicons) x
  each_letters x (e, held, uses) =
      let r = is.only e held in
      let entry : LexEntry = r.0 in
      let (entries, at, among, there) = r.1 in
      let (here, next, same) = r.2 in
      (record { place = e.place; content = network entry.net; next = entry.next }, (entries, entry, at, among, refl, refl), same.uses x uses)
