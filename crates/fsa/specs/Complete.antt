-- A complete deterministic automaton (Hopcroft, Motwani and Ullman, section 2.2): in each state, each letter
-- leads to one state. The table has the states' rows one after another, and a row the next state of each
-- letter, in the order of the letters. States and places are counted from 0, and state 0 is the start.
use Rattle.std.specs.Prelude.{◌≡◌, ◌<◌, ◌+◌, ◌*◌, ℕ, List, [], ◌∷◌, Bool, true, Option, Some, All, slice_get, length}
use Rattle.word_relations.specs.Words.{IsDistinct}

pub record Complete (L : Type 0) : Type 0 where
  pub letters : List L
  pub next : List ℕ
  pub finals : List Bool

-- there is a start, each letter stands once, and for each state and letter there is one next state
pub record IsComplete {L : Type 0} (d : Complete L) : Type 0 where
  pub start : 0 < length d.finals
  pub distinct : IsDistinct d.letters
  pub full : length d.next ≡ length d.finals * length d.letters
  pub within : All (λ state. state < length d.finals) d.next

-- the next state of a state at a letter's place
abbrev pub next_state : {L : Type 0} → Complete L → ℕ → ℕ → Option ℕ
next_state d state place = slice_get d.next (state * length d.letters + place)

-- the path from the state along these letters ends in a final state
pub data AcceptsFrom {L : Type 0} (d : Complete L) : ℕ → List L → Type 0 where
  stop : {s : ℕ} → slice_get d.finals s ≡ Some true → AcceptsFrom d s []
  read : {s t : ℕ} {x : L} {w : List L} (k : ℕ) → slice_get d.letters k ≡ Some x → next_state d s k ≡ Some t → AcceptsFrom d t w → AcceptsFrom d s (x ∷ w)

-- the word is in the language
abbrev pub Accepts : {L : Type 0} → Complete L → List L → Type 0
Accepts d w = AcceptsFrom d 0 w
