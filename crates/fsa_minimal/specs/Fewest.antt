-- The fewest states of a complete automaton of a language (Hopcroft, Motwani and Ullman, Introduction to Automata
-- Theory, section 4.4): each state is reached from the start, and of any two states some word is accepted from
-- exactly one (Myhill and Nerode).
use Rattle.std.specs.Prelude.{◌≡◌, ◌<◌, ◌≤◌, ◌≢◌, ◌↔◌, ◌⊎◌, ℕ, List, [], ◌∷◌, Some, Contains, slice_get, length}
use Rattle.fsa.specs.Complete.{Complete, IsComplete, Accepts, AcceptsFrom, next_state}

-- no complete automaton of the language over the same letters has fewer states
pub record HasFewest {L : Type 0} (d : Complete L) : Type 0 where
  pub least : (other : Complete L) → IsComplete other → other.letters ≡ d.letters → ((w : List L) → Accepts other w ↔ Accepts d w)
      → length d.finals ≤ length other.finals

-- some word is accepted from exactly one of the two states
abbrev pub AreApart : {L : Type 0} → Complete L → ℕ → ℕ → Type 0
AreApart {L} d s t = (w : List L) × ((AcceptsFrom d s w × ¬ AcceptsFrom d t w) ⊎ (¬ AcceptsFrom d s w × AcceptsFrom d t w))

-- the letters of the word lead from the first state to the second
pub data Leads {L : Type 0} (d : Complete L) : ℕ → List L → ℕ → Type 0 where
  here : {s : ℕ} → Leads d s [] s
  along : {s t u : ℕ} {x : L} {w : List L} (k : ℕ) → slice_get d.letters k ≡ Some x → next_state d s k ≡ Some t → Leads d t w u → Leads d s (x ∷ w) u

-- some word leads from the start to each state below the bound
abbrev pub AreReachedBelow : {L : Type 0} → Complete L → ℕ → Type 0
AreReachedBelow {L} d bound = (i : ℕ) → i < bound → (w : List L) × Leads d 0 w i

-- two states of different classes are apart
abbrev pub ClassesAreApart : {L : Type 0} → Complete L → List ℕ → Type 0
ClassesAreApart d class_of = (s t : ℕ) → s < length d.finals → t < length d.finals → slice_get class_of s ≢ slice_get class_of t → AreApart d s t

-- each of these states is apart from each other one
abbrev pub IsApartFromOthers : {L : Type 0} → Complete L → List ℕ → Type 0
IsApartFromOthers d found = (s t : ℕ) → s < length d.finals → t < length d.finals → Contains found s → ¬ Contains found t → AreApart d s t
