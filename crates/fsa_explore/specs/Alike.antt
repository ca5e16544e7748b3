-- Letters in classes: a letter is told by its place in a list, and the letters of a class act alike.
use Rattle.std.specs.Prelude.{◌≡◌, ◌<◌, ◌+◌, ◌*◌, ◌↔◌, ◌++◌, ◌⊎◌, [], ◌∷◌, ℕ, List, Option, Some, All, Contains, slice_get, length}
use Rattle.fsa.specs.declared.automaton.Edge.{Edge}
use Rattle.fsa.specs.Complete.{Complete, next_state}
use Rattle.fsa_explore.specs.Explored.{Numbered, AddsTarget}

-- the class of each letter, and a letter of each class, like which the others act
pub record AreAlike (Alike : ℕ → ℕ → Type 0) (letters : ℕ) (of_places firsts : List ℕ) : Type 0 where
  pub count : length of_places ≡ letters
  pub within : All (λ first. first < letters) firsts
  pub first : (place class : ℕ) → slice_get of_places place ≡ Some class → (first : ℕ) × (slice_get firsts class ≡ Some first) × Alike place first

-- two letters lead each state to the same next state
abbrev pub LeadAlike : {L : Type 0} → Complete L → ℕ → ℕ → Type 0
LeadAlike a j k = (state : ℕ) → state < length a.finals → next_state a state j ≡ next_state a state k

-- the letters before a bound lead the state where the first letters of their classes lead it
abbrev pub LeadsAsFirsts : {L : Type 0} → Complete L → List ℕ → List ℕ → ℕ → ℕ → Type 0
LeadsAsFirsts a of_places firsts state bound = (place class first : ℕ) → place < bound
    → slice_get of_places place ≡ Some class → slice_get firsts class ≡ Some first → next_state a state place ≡ next_state a state first

-- these are the numbers below the bound, in their order
pub record IsCounting (bound : ℕ) (numbers : List ℕ) : Type 0 where
  pub count : length numbers ≡ bound
  pub at : (k : ℕ) → k < bound → slice_get numbers k ≡ Some k

-- the same edges leave two states
abbrev pub GoAlike : List (Edge ℕ) → ℕ → ℕ → Type 0
GoAlike edges j k = (letter : Option ℕ) (to : ℕ) →
    Contains edges (record { from = j; letter = letter; to = to }) ↔ Contains edges (record { from = k; letter = letter; to = to })

-- two places have the same numbers in both lists
abbrev pub AreBothAlike : List ℕ → List ℕ → ℕ → ℕ → Type 0
AreBothAlike a b j k = (slice_get a j ≡ slice_get a k) × (slice_get b j ≡ slice_get b k)

-- the letter leads where its class leads
abbrev pub ByClass : (List ℕ → ℕ → List ℕ → Type 0) → List ℕ → List ℕ → ℕ → List ℕ → Type 0
ByClass Leads of_places list place to = (class : ℕ) × (slice_get of_places place ≡ Some class) × Leads list class to

-- the letter at the place has the list, and where that is new, the letter is the first of a class
pub record AddsLetter (old new : Numbered) (before after : List ℕ) (place : ℕ) (list : List ℕ) : Type 0 where
  pub target : AddsTarget old new list
  pub firsts : ((new.lists ≡ old.lists) × (after ≡ before)) ⊎ ((new.lists ≡ old.lists ++ list ∷ []) × (after ≡ before ++ place ∷ []))

-- a table with a column for each letter, from one with a column for each class
pub record IsSpread (next : List ℕ) (count : ℕ) (of_places : List ℕ) (states : ℕ) (spread : List ℕ) : Type 0 where
  pub full : length spread ≡ states * length of_places
  pub within : (number : ℕ) → Contains spread number → Contains next number
  pub same : (state place class : ℕ) → state < states → slice_get of_places place ≡ Some class
      → slice_get spread (state * length of_places + place) ≡ slice_get next (state * count + class)
