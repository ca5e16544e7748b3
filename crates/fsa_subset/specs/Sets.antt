-- The subset construction with epsilon edges (Hopcroft, Motwani and Ullman, Introduction to Automata Theory,
-- section 2.5.5). A set of states is the list of its states.
use Rattle.std.specs.Prelude.{◌≡◌, ◌<◌, ◌↔◌, ℕ, List, [], ◌∷◌, Bool, true, Option, Some, None, All, Contains, slice_get, length}
use Rattle.fsa.specs.declared.automaton.Edge.{Edge}
use Rattle.fsa_explore.specs.Reaches.{Reaches}
use Rattle.fsa_explore.specs.Alike.{ByClass}
use Rattle.fsa_explore.specs.Explored.{IsExplored}
use Rattle.fsa_subset.specs.Placed.{Goes}
use Rattle.fsa_subset.specs.declared.places.LetterIndex.{LetterIndex}

-- an automaton whose edges carry places of letters, and how many letters there are
pub record Placed : Type 0 where
  pub edges : List (Edge LetterIndex)
  pub finals : List Bool
  pub letters : ℕ

-- epsilon edges don't leave the set, and its states are there
pub record IsSettled (edges : List (Edge LetterIndex)) (states : ℕ) (set : List ℕ) : Type 0 where
  pub closed : (p q : ℕ) → Contains set p → Goes edges p None q → Contains set q
  pub within : All (λ p. p < states) set

abbrev pub IsStateSet : Placed → List ℕ → Type 0
IsStateSet m set = IsSettled m.edges (length m.finals) set

-- the letter at the place leads from the set to the state by one edge
abbrev pub IsMove : List (Edge LetterIndex) → List ℕ → ℕ → ℕ → Type 0
IsMove edges set place r = (p : ℕ) × Contains set p × Goes edges p (Some (record { 0 = place })) r

-- some edge has the letter at the place, and leaves a state of the set
abbrev pub HasMove : List (Edge LetterIndex) → List ℕ → ℕ → Type 0
HasMove edges set place = (r : ℕ) × IsMove edges set place r

-- the letter at the place leads from the set to the other set: by an edge, and then any epsilon edges
abbrev pub LeadsBy : List (Edge LetterIndex) → List ℕ → ℕ → List ℕ → Type 0
LeadsBy edges set place to = (q : ℕ) → Contains to q ↔ ((r : ℕ) × IsMove edges set place r × Reaches edges r q)

abbrev pub LeadsTo : Placed → List ℕ → ℕ → List ℕ → Type 0
LeadsTo m set place to = LeadsBy m.edges set place to

-- some state of the set is final
abbrev pub IsFinalSet : Placed → List ℕ → Type 0
IsFinalSet m set = (p : ℕ) × Contains set p × (slice_get m.finals p ≡ Some true)

-- an epsilon edge from the place of the letter, if there is a letter
abbrev pub from_letter : Option LetterIndex → ℕ → List (Edge LetterIndex)
from_letter None to = []
from_letter (Some place) to = record { from = place.0; letter = None; to = to } ∷ []

abbrev pub from_place : Edge LetterIndex → List (Edge LetterIndex)
from_place e = from_letter e.letter e.to

-- for each move from the set, an epsilon edge from the place of the letter, and no others
abbrev pub AreMoves : List (Edge LetterIndex) → List ℕ → List (Edge LetterIndex) → Type 0
AreMoves edges set moves = (e : Edge LetterIndex) → Contains moves e ↔ ((e.letter ≡ None) × IsMove edges set e.from e.to)

-- the set has what the moves from the place enter, and then any epsilon edges
abbrev pub IsTargetSet : List (Edge LetterIndex) → List (Edge LetterIndex) → ℕ → List ℕ → Type 0
IsTargetSet edges moves place set = (q : ℕ) → Contains set q ↔ ((r : ℕ) × Goes moves place None r × Reaches edges r q)

-- the sets that the start reaches, and its epsilon edges, were built
abbrev pub IsSubsetBuilt : Placed → List ℕ → List Bool → Type 0
IsSubsetBuilt m next finals = (start : List ℕ) × ((q : ℕ) → Contains start q ↔ Reaches m.edges 0 q)
    × IsExplored (IsStateSet m) (LeadsTo m) (IsFinalSet m) m.letters start next finals

-- the same from edges that carry classes of letters
abbrev pub IsBuiltByClass : Placed → List ℕ → List ℕ → List Bool → Type 0
IsBuiltByClass m of_places next finals = (start : List ℕ) × ((q : ℕ) → Contains start q ↔ Reaches m.edges 0 q)
    × IsExplored (IsStateSet m) (ByClass (LeadsTo m) of_places) (IsFinalSet m) (length of_places) start next finals
