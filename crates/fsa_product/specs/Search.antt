-- Breadth-first search (Cormen, Leiserson, Rivest and Stein, Introduction to Algorithms, section 22.2).
use Rattle.std.specs.Prelude.{◌≡◌, ◌<◌, ◌≤◌, ◌+◌, ◌++◌, ◌⊎◌, [], ◌∷◌, ℕ, List, true, Option, Some, None, Contains, length, slice_get}
use Rattle.fsa.specs.Complete.{Complete, Accepts, AcceptsFrom, next_state}
use Rattle.fsa_explore.specs.Marks.{Marks}
use Rattle.fsa_product.specs.declared.search.Step.{Step}

-- the word is accepted, and no accepted word is shorter
pub record IsShortest {L : Type 0} (d : Complete L) (word : List L) : Type 0 where
  pub accepted : Accepts d word
  pub least : (w : List L) → Accepts d w → length word ≤ length w

-- the words by which states were reached: the empty word without a step, and one letter more by each step
pub record AreWordsOf {L : Type 0} (letters : List L) (steps : List (Option Step)) (words : List (List L)) : Type 0 where
  pub count : length words ≡ length steps
  pub root : (i : ℕ) → slice_get steps i ≡ Some None → slice_get words i ≡ Some []
  pub longer : (i : ℕ) (step : Step) → slice_get steps i ≡ Some (Some step) → (step.before < i)
      × ((x : L) × (v : List L) × (slice_get letters step.place ≡ Some x) × (slice_get words step.before ≡ Some v) × (slice_get words i ≡ Some (v ++ x ∷ [])))

-- the state with the number is the end of a shortest accepted word
abbrev pub EndsShortest : {L : Type 0} → Complete L → List (Option Step) → ℕ → Type 0
EndsShortest {L} d steps i = (words : List (List L)) × AreWordsOf d.letters steps words × ((word : List L) × (slice_get words i ≡ Some word) × IsShortest d word)

-- the letters before a bound lead from the state to states that were found
abbrev pub HasNext : {L : Type 0} → Complete L → ℕ → ℕ → List ℕ → Type 0
HasNext d state bound found = (k t : ℕ) → k < bound → next_state d state k ≡ Some t → Contains found t

-- the state was found before, or is found now, by the step
abbrev pub AddsState : Marks → List (Option Step) → ℕ → Step → Marks → List (Option Step) → Type 0
AddsState old steps state step new steps_new =
    (Contains old.found state × (new ≡ old) × (steps_new ≡ steps))
    ⊎ ((new ≡ record old { found = old.found ++ state ∷ [] }) × (steps_new ≡ steps ++ Some step ∷ []))

-- states are found in the order of their distance from the start, and those before the number were looked at
pub record IsSearch {L : Type 0} (d : Complete L) (number : ℕ) (reached : Marks) (steps : List (Option Step)) : Type 0 where
  pub words : List (List L)
  pub are_words : AreWordsOf d.letters steps words
  pub bound : reached.bound ≡ length d.finals
  pub within : (i s : ℕ) → slice_get reached.found i ≡ Some s → s < length d.finals
  pub count : length steps ≡ length reached.found
  pub start : slice_get reached.found 0 ≡ Some 0
  pub start_word : slice_get words 0 ≡ Some []
  pub leads : (i s : ℕ) (w v : List L) → slice_get reached.found i ≡ Some s → slice_get words i ≡ Some w → AcceptsFrom d s v → Accepts d (w ++ v)
  pub order : (i j : ℕ) (v w : List L) → i ≤ j → slice_get words i ≡ Some v → slice_get words j ≡ Some w → length v ≤ length w
  pub ahead : (j : ℕ) (v w : List L) → slice_get words number ≡ Some v → slice_get words j ≡ Some w → length w ≤ length v + 1
  pub closed : (i s k t : ℕ) (v : List L) → i < number → slice_get reached.found i ≡ Some s → slice_get words i ≡ Some v → k < length d.letters → next_state d s k ≡ Some t
      → (j : ℕ) × (w : List L) × (slice_get reached.found j ≡ Some t) × (slice_get words j ≡ Some w) × (length w ≤ length v + 1)
  pub not_final : (i s : ℕ) → i < number → slice_get reached.found i ≡ Some s → slice_get d.finals s ≡ Some true → ⊥
