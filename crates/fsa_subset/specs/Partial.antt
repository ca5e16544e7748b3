-- The subset construction without letters that lead nowhere: the sets that the start reaches, and an edge from a set
-- for each letter that leads from it (Hopcroft, Motwani and Ullman, Introduction to Automata Theory, section 2.3.5). A
-- set is a state by its number.
use Rattle.std.specs.Prelude.{◌≡◌, ◌<◌, ◌++◌, ◌⊎◌, ◌↔◌, ℕ, List, [], ◌∷◌, Bool, true, Some, Contains, slice_get, length}
use Rattle.fsa.specs.declared.automaton.Edge.{Edge}
use Rattle.fsa_explore.specs.Reaches.{Reaches}
use Rattle.fsa_subset.specs.Sets.{IsSettled, LeadsBy, HasMove}
use Rattle.fsa_subset.specs.declared.places.LetterIndex.{LetterIndex}

pub record Partial : Type 0 where
  pub sets : List (List ℕ)
  pub edges : List (Edge LetterIndex)

-- an edge from the set with the number to the set, which is found where it wasn't yet
pub record AddsEdge (number place : ℕ) (set : List ℕ) (old new : Partial) : Type 0 where
  pub sets : (new.sets ≡ old.sets) ⊎ (new.sets ≡ old.sets ++ set ∷ [])
  pub edge : (to : ℕ) × (slice_get new.sets to ≡ Some set) × (new.edges ≡ old.edges ++ record { from = number; letter = Some (record { 0 = place }); to = to } ∷ [])

-- the edge leads from the set with the number by the letter at the place
abbrev pub IsStep : (ℕ → List ℕ → Type 0) → ℕ → List (List ℕ) → ℕ → Edge LetterIndex → Type 0
IsStep Leads number sets place e =
    (e.from ≡ number) × (e.letter ≡ Some (record { 0 = place })) × ((to : List ℕ) × (slice_get sets e.to ≡ Some to) × Leads place to)

-- an edge for each of these places was added, from the set with the number
pub record AddsSteps (IsState : List ℕ → Type 0) (Leads : ℕ → List ℕ → Type 0) (number : ℕ) (At : ℕ → Type 0) (old new : Partial) : Type 0 where
  pub sets : (more : List (List ℕ)) × (new.sets ≡ old.sets ++ more)
  pub states : (set : List ℕ) → Contains new.sets set → Contains old.sets set ⊎ IsState set
  pub kept : (e : Edge LetterIndex) → Contains old.edges e → Contains new.edges e
  pub only : (e : Edge LetterIndex) → Contains new.edges e → Contains old.edges e ⊎ ((place : ℕ) × At place × IsStep Leads number new.sets place e)
  pub all : (place : ℕ) → At place → (e : Edge LetterIndex) × Contains new.edges e × IsStep Leads number new.sets place e

-- the sets before a number have their edges
pub record IsSpread (IsState : List ℕ → Type 0) (Leads : List ℕ → ℕ → List ℕ → Type 0) (Moves : List ℕ → ℕ → Type 0) (start : List ℕ) (done : ℕ) (found : Partial) : Type 0 where
  pub start_first : slice_get found.sets 0 ≡ Some start
  pub states : (set : List ℕ) → Contains found.sets set → IsState set
  pub only : (e : Edge LetterIndex) → Contains found.edges e
      → (number : ℕ) × (set : List ℕ) × (place : ℕ) × (slice_get found.sets number ≡ Some set) × Moves set place × IsStep (Leads set) number found.sets place e
  pub all : (number place : ℕ) (set : List ℕ) → number < done → slice_get found.sets number ≡ Some set → Moves set place
      → (e : Edge LetterIndex) × Contains found.edges e × IsStep (Leads set) number found.sets place e

-- the same, by these edges, from what epsilon edges reach from the start
abbrev pub IsSpreadBy : List (Edge LetterIndex) → ℕ → ℕ → Partial → Type 0
IsSpreadBy edges states done found =
    (start : List ℕ) × ((q : ℕ) → Contains start q ↔ Reaches edges 0 q) × IsSpread (IsSettled edges states) (LeadsBy edges) (HasMove edges) start done found

-- which of the sets have a final state
pub record AreFinal (finals : List Bool) (sets : List (List ℕ)) (marks : List Bool) : Type 0 where
  pub count : length marks ≡ length sets
  pub final : (number : ℕ) (set : List ℕ) → slice_get sets number ≡ Some set
      → (slice_get marks number ≡ Some true) ↔ ((p : ℕ) × Contains set p × (slice_get finals p ≡ Some true))
