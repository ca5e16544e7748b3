-- The automaton of one word: a state for each place.
use Rattle.std.specs.Prelude.{◌≡◌, ◌+◌, List, Some, slice_get}
use Rattle.fsa.specs.declared.automaton.Edge.{Edge}

-- the edge reads a letter of the word, from its place to the next
abbrev pub IsStep : {L : Type 0} → List L → Edge L → Type 0
IsStep {L} word e = (x : L) × (slice_get word e.from ≡ Some x) × (e.letter ≡ Some x) × (e.to ≡ e.from + 1)
