-- Breadth-first search (Cormen, Leiserson, Rivest and Stein, Introduction to Algorithms, section 22.2) among states of any kind, between
-- which letters lead.
use Rattle.std.specs.Prelude.{◌≡◌, ◌<◌, ◌≤◌, ◌+◌, ◌++◌, [], ◌∷◌, ℕ, List, Option, Some, None, length, slice_get}
use Rattle.lang_equal.specs.declared.search.Step.{Step}

-- the words by which states were reached: the empty word without a step, and one letter more by each step
pub record AreWordsOf {L : Type 0} (letters : List L) (steps : List (Option Step)) (words : List (List L)) : Type 0 where
  pub count : length words ≡ length steps
  pub root : (i : ℕ) → slice_get steps i ≡ Some None → slice_get words i ≡ Some []
  pub longer : (i : ℕ) (step : Step) → slice_get steps i ≡ Some (Some step) → (step.before < i)
      × ((x : L) × (v : List L) × (slice_get letters step.place ≡ Some x) × (slice_get words step.before ≡ Some v) × (slice_get words i ≡ Some (v ++ x ∷ [])))

-- states are found in the order of their distance from the start, and those before the number were looked at. Words are given to each
-- state: those that are sought from it on
pub record IsSearch {S L : Type 0} (letters : List L) (start : S) (IsState : S → Type 0) (Leads : S → ℕ → S → Type 0) (IsFinal : S → Type 0) (Words : S → List L → Type 0) (number : ℕ) (found : List S) (steps : List (Option Step)) : Type 0 where
  pub words : List (List L)
  pub are_words : AreWordsOf letters steps words
  pub within : (i : ℕ) (s : S) → slice_get found i ≡ Some s → IsState s
  pub count : length steps ≡ length found
  pub start_first : slice_get found 0 ≡ Some start
  pub start_word : slice_get words 0 ≡ Some []
  pub leads : (i : ℕ) (s : S) (w v : List L) → slice_get found i ≡ Some s → slice_get words i ≡ Some w → Words s v → Words start (w ++ v)
  pub order : (i j : ℕ) (v w : List L) → i ≤ j → slice_get words i ≡ Some v → slice_get words j ≡ Some w → length v ≤ length w
  pub ahead : (j : ℕ) (v w : List L) → slice_get words number ≡ Some v → slice_get words j ≡ Some w → length w ≤ length v + 1
  pub closed : (i : ℕ) (s : S) (k : ℕ) (t : S) (v : List L) → i < number → slice_get found i ≡ Some s → slice_get words i ≡ Some v → k < length letters → Leads s k t
      → (j : ℕ) × (w : List L) × (slice_get found j ≡ Some t) × (slice_get words j ≡ Some w) × (length w ≤ length v + 1)
  pub not_final : (i : ℕ) (s : S) → i < number → slice_get found i ≡ Some s → IsFinal s → ⊥
