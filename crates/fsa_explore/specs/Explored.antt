-- A complete automaton whose states are lists of numbers, built as far as its start reaches (the subset
-- construction and the product construction: Hopcroft, Motwani and Ullman, Introduction to Automata Theory,
-- sections 2.3.5 and 4.2.1).
use Rattle.std.specs.Prelude.{◌≡◌, ◌<◌, ◌+◌, ◌*◌, ◌++◌, ◌⊎◌, ◌↔◌, [], ◌∷◌, ℕ, List, Bool, true, Some, All, Contains, slice_get, length}

-- the lists, by their numbers, and the numbers that letters lead to
pub record Numbered : Type 0 where
  pub lists : List (List ℕ)
  pub next : List ℕ

-- the start has the number 0, and nothing else was found
pub record StartsAt (start : List ℕ) (found : Numbered) : Type 0 where
  pub lists : found.lists ≡ start ∷ []
  pub next : found.next ≡ []

-- one more letter leads to the list
pub record AddsTarget (old new : Numbered) (list : List ℕ) : Type 0 where
  pub lists : (new.lists ≡ old.lists) ⊎ (new.lists ≡ old.lists ++ list ∷ [])
  pub next : (number : ℕ) × (new.next ≡ old.next ++ number ∷ []) × (slice_get new.lists number ≡ Some list)

-- letters, from place 0 on, lead to lists that they may lead to: one list each
pub record AddsRow (IsState : List ℕ → Type 0) (Leads : ℕ → List ℕ → Type 0) (letters : ℕ) (old new : Numbered) : Type 0 where
  pub lists : (more : List (List ℕ)) × (new.lists ≡ old.lists ++ more)
  pub states : (list : List ℕ) → Contains new.lists list → Contains old.lists list ⊎ IsState list
  pub next : (row : List ℕ) × (new.next ≡ old.next ++ row) × (length row ≡ letters)
      × ((place number : ℕ) → slice_get row place ≡ Some number → (list : List ℕ) × (slice_get new.lists number ≡ Some list) × Leads place list)

-- the table and the final states of what the start reaches: each state stands for a list
pub record IsExplored (IsState : List ℕ → Type 0) (Leads : List ℕ → ℕ → List ℕ → Type 0) (IsFinal : List ℕ → Type 0) (letters : ℕ) (start : List ℕ) (next : List ℕ) (finals : List Bool) : Type 0 where
  pub lists : List (List ℕ)
  pub start_first : slice_get lists 0 ≡ Some start
  pub count : length finals ≡ length lists
  pub full : length next ≡ length finals * letters
  pub within : All (λ number. number < length finals) next
  pub states : (list : List ℕ) → Contains lists list → IsState list
  pub leads : (state place number : ℕ) (list : List ℕ) → place < letters → slice_get lists state ≡ Some list
      → slice_get next (state * letters + place) ≡ Some number → (to : List ℕ) × (slice_get lists number ≡ Some to) × Leads list place to
  pub final : (state : ℕ) (list : List ℕ) → slice_get lists state ≡ Some list → (slice_get finals state ≡ Some true) ↔ IsFinal list
