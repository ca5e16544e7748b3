-- Networks of one word.
use Rattle.std.specs.Prelude.{◌≡◌, ◌+◌, ◌++◌, ◌↔◌, ℕ, List, [], ◌∷◌, Some, length, slice_get}
use Rattle.std.specs.Option.{option_to_list}
use Rattle.fsa.specs.Automaton.{Automaton, IsFinal}
use Rattle.fsa.specs.declared.automaton.Edge.{Edge}
use Rattle.flag_diacritics.specs.declared.tape.Tape.{Tape}

-- each edge leads from a state to the next, the first from the start
abbrev pub IsInOrder : List (Edge Tape) → Type 0
IsInOrder edges = (k : ℕ) (e : Edge Tape) → slice_get edges k ≡ Some e → (e.from ≡ k) × (e.to ≡ k + 1)

-- a chain of edges, at whose end alone a path may end
pub record IsChain (net : Automaton Tape) : Type 0 where
  pub order : IsInOrder net.edges
  pub end : (p : ℕ) → IsFinal net p ↔ (p ≡ length net.edges)

-- the letters of the edges, epsilon edges left out
abbrev pub letters_of : List (Edge Tape) → List Tape
letters_of [] = []
letters_of (e ∷ es) = option_to_list e.letter ++ letters_of es
