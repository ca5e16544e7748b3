-- The edges that show a complete automaton: one for each entry of its table.
use Rattle.std.specs.Prelude.{◌≡◌, ℕ, List, Some, Contains, slice_get}
use Rattle.fsa.specs.Complete.{Complete, next_state}
use Rattle.fsa.specs.declared.automaton.Edge.{Edge}

-- the edge shows the entry at the letter's place
abbrev pub IsArc : {L : Type 0} → Complete L → ℕ → Edge L → Type 0
IsArc {L} d place e = (x : L) × (slice_get d.letters place ≡ Some x) × (e.letter ≡ Some x) × (next_state d e.from place ≡ Some e.to)

-- the edges show the entries at these states and places, and no others
pub record HasArcs {L : Type 0} (d : Complete L) (P : ℕ → ℕ → Type 0) (edges : List (Edge L)) : Type 0 where
  pub only : (e : Edge L) → Contains edges e → (place : ℕ) × P e.from place × IsArc d place e
  pub all : (place : ℕ) (e : Edge L) → P e.from place → IsArc d place e → Contains edges e
