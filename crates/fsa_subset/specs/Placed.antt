-- Edges that carry the places of letters in a list of letters, in place of the letters.
use Rattle.std.specs.Prelude.{◌≡◌, ◌<◌, ◌↔◌, ℕ, List, Option, Some, None, Contains, slice_get}
use Rattle.std.specs.Option.{option_and_then}
use Rattle.fsa.specs.declared.automaton.Edge.{Edge}
use Rattle.fsa_subset.specs.declared.places.LetterIndex.{LetterIndex}

-- an edge with this letter, or an epsilon edge for None, goes from the first state to the second
abbrev pub Goes : {X : Type 0} → List (Edge X) → ℕ → Option X → ℕ → Type 0
Goes edges from letter to = Contains edges (record { from = from; letter = letter; to = to })

-- the place of each letter before a bound is found
abbrev pub FindsPlaces : {L : Type 0} → List L → ℕ → (L → Option LetterIndex) → Type 0
FindsPlaces {L} letters bound find = (k : ℕ) (x : L) → k < bound → slice_get letters k ≡ Some x → find x ≡ Some (record { 0 = k })

-- the same edge, its letter replaced by what is found for it
abbrev pub at_place : {L : Type 0} → (L → Option LetterIndex) → Edge L → Edge LetterIndex
at_place find e = record { from = e.from; letter = option_and_then find e.letter; to = e.to }

-- these are the same edges, with places for letters
pub record IsPlaced {L : Type 0} (letters : List L) (edges : List (Edge L)) (placed : List (Edge LetterIndex)) : Type 0 where
  pub only : (p k q : ℕ) → Goes placed p (Some (record { 0 = k })) q → (x : L) × (slice_get letters k ≡ Some x) × Goes edges p (Some x) q
  pub all : (p k q : ℕ) (x : L) → slice_get letters k ≡ Some x → Goes edges p (Some x) q → Goes placed p (Some (record { 0 = k })) q
  pub epsilon : (p q : ℕ) → Goes placed p None q ↔ Goes edges p None q

-- each letter is found at its place, and no other letter is found
pub record AreFound {L : Type 0} (letters : List L) (find : L → Option ℕ) : Type 0 where
  pub all : (x : L) (k : ℕ) → slice_get letters k ≡ Some x → find x ≡ Some k
  pub only : (x : L) (k : ℕ) → find x ≡ Some k → slice_get letters k ≡ Some x

-- the edge with the letter at the place that it carries
abbrev pub with_letter : {L : Type 0} → List L → Edge LetterIndex → Edge L
with_letter letters e = record { from = e.from; letter = option_and_then (λ (place : LetterIndex). slice_get letters place.0) e.letter; to = e.to }
