-- Edges that carry classes of letters: of the letters of a class, which the same edges carry, the first one counts.
use Rattle.std.specs.Prelude.{◌≡◌, ◌↔◌, ℕ, List, [], ◌∷◌, Option, Some, None, slice_get}
use Rattle.fsa.specs.declared.automaton.Edge.{Edge}
use Rattle.fsa_subset.specs.Placed.{Goes}
use Rattle.fsa_subset.specs.declared.places.LetterIndex.{LetterIndex}

-- an edge from the place of the letter, which carries the state that was left; for an epsilon edge none
abbrev pub turned : ℕ → Option LetterIndex → ℕ → List (Edge ℕ)
turned from None to = []
turned from (Some place) to = record { from = place.0; letter = Some from; to = to } ∷ []

abbrev pub by_letter : Edge LetterIndex → List (Edge ℕ)
by_letter e = turned e.from e.letter e.to

-- these are the edges with letters, turned in that way
abbrev pub IsByLetter : List (Edge LetterIndex) → List (Edge ℕ) → Type 0
IsByLetter edges rows = (place to : ℕ) (from : Option ℕ) →
    Goes rows place from to ↔ ((p : ℕ) × (from ≡ Some p) × Goes edges p (Some (record { 0 = place })) to)

-- turned back, with a class in place of the letter
abbrev pub back : ℕ → Option ℕ → ℕ → List (Edge LetterIndex)
back class None to = []
back class (Some from) to = record { from = from; letter = Some (record { 0 = class }); to = to } ∷ []

abbrev pub at_class : ℕ → Edge ℕ → List (Edge LetterIndex)
at_class class e = back class e.letter e.to

-- the epsilon edges, and for each class the edges of its first letter
pub record IsByClass (edges : List (Edge LetterIndex)) (firsts : List ℕ) (classed : List (Edge LetterIndex)) : Type 0 where
  pub epsilon : (p q : ℕ) → Goes classed p None q ↔ Goes edges p None q
  pub lettered : (p class q : ℕ) → Goes classed p (Some (record { 0 = class })) q
      ↔ ((first : ℕ) × (slice_get firsts class ≡ Some first) × Goes edges p (Some (record { 0 = first })) q)
