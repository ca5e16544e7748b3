-- A network as it is written, state by state. The states have places, in the order in which they were found (breadth-first search: Cormen,
-- Leiserson, Rivest and Stein, Introduction to Algorithms, section 22.2), and these are the states of the text.
use Rattle.std.specs.Prelude.{◌≡◌, ◌<◌, ◌^◌, ◌++◌, ⊤, ℕ, List, [], ◌∷◌, Option, Some, None, Contains, slice_get}
use Rattle.std.specs.Option.{option_map}
use Rattle.word_relations.specs.Words.{IsDistinct}
use Rattle.fsm_base.specs.Alphabet.{symbols_of, text_of}
use Rattle.fsm_base.specs.declared.letters.Sym.{Sym}
use Rattle.fsm_base.specs.declared.letters.Pair.{Pair}
use Rattle.fsa.specs.declared.automaton.Edge.{Edge}
use Rattle.fsa.specs.Automaton.{Automaton, IsFinal}
use Rattle.att_text.specs.Drawing.{Extends}
use Rattle.att_text.specs.Lines.{Saying, arc, final}
use Rattle.att_text.specs.Sides.{upper_side, lower_side}
use Rattle.att_text.specs.Writing.{BeginsWith, IsField, text_saying}

-- a side's text, if it has one, may be a field
abbrev pub MayBeField : Option (List ℕ) → Type 0
MayBeField None = ⊤
MayBeField (Some text) = IsField text

-- this can be said by a line
abbrev pub IsSayable : Saying → Type 0
IsSayable (arc from to upper lower) = (from < 2 ^ 64) × (to < 2 ^ 64) × MayBeField upper × MayBeField lower
IsSayable (final state) = state < 2 ^ 64

-- a side's symbol, if it has one, is of the alphabet
abbrev pub MayBeOf : List (Sym × List ℕ) → Option Sym → Type 0
MayBeOf alphabet None = ⊤
MayBeOf alphabet (Some symbol) = Contains (symbols_of alphabet) symbol

-- both sides of an edge are
abbrev pub IsEdgeOf : List (Sym × List ℕ) → Edge Pair → Type 0
IsEdgeOf alphabet e = MayBeOf alphabet (upper_side e.letter) × MayBeOf alphabet (lower_side e.letter)

-- what is said of an edge between the states at two places
abbrev pub edge_said : List (Sym × List ℕ) → ℕ → ℕ → Edge Pair → Saying
edge_said alphabet from to e = arc from to (option_map (text_of alphabet) (upper_side e.letter)) (option_map (text_of alphabet) (lower_side e.letter))

-- the first of the edges, so many, were written as those of the state at the place
pub record AddsArcs (alphabet : List (Sym × List ℕ)) (place : ℕ) (edges : List (Edge Pair)) (count : ℕ) (old_text new_text : List ℕ) (old new : List ℕ) : Type 0 where
  pub said : List Saying
  pub text : new_text ≡ old_text ++ text_saying said
  pub grows : Extends old new
  pub once : IsDistinct new
  pub sayable : (s : Saying) → Contains said s → IsSayable s
  pub arcs : (k : ℕ) (e : Edge Pair) → k < count → slice_get edges k ≡ Some e → (to : ℕ) × (slice_get new to ≡ Some e.to) × Contains said (edge_said alphabet place to e)
  pub only : (s : Saying) → Contains said s → (k : ℕ) × (e : Edge Pair) × (to : ℕ) × (slice_get edges k ≡ Some e) × (slice_get new to ≡ Some e.to) × (s ≡ edge_said alphabet place to e)
  pub none : said ≡ [] → new ≡ old

-- what is said is so of a state that was written: one before the count
abbrev pub IsSaidOf : List (Sym × List ℕ) → Automaton Pair → List ℕ → ℕ → Saying → Type 0
IsSaidOf alphabet net states count (arc from to upper lower) =
    (from < count) × ((e : Edge Pair) × Contains net.edges e × (slice_get states from ≡ Some e.from) × (slice_get states to ≡ Some e.to)
    × (option_map (text_of alphabet) (upper_side e.letter) ≡ upper) × (option_map (text_of alphabet) (lower_side e.letter) ≡ lower))
IsSaidOf alphabet net states count (final place) = (place < count) × ((state : ℕ) × (slice_get states place ≡ Some state) × IsFinal net state)

-- the states before the count were written
pub record IsWriting (alphabet : List (Sym × List ℕ)) (net : Automaton Pair) (states : List ℕ) (count : ℕ) (text : List ℕ) : Type 0 where
  pub said : List Saying
  pub text_is : text ≡ text_saying said
  pub start : slice_get states 0 ≡ Some 0
  pub once : IsDistinct states
  pub sayable : (s : Saying) → Contains said s → IsSayable s
  pub arcs : (e : Edge Pair) (place : ℕ) → Contains net.edges e → place < count → slice_get states place ≡ Some e.from → (to : ℕ) × (slice_get states to ≡ Some e.to) × Contains said (edge_said alphabet place to e)
  pub finals : (state place : ℕ) → place < count → slice_get states place ≡ Some state → IsFinal net state → Contains said (final place)
  pub only : (s : Saying) → Contains said s → IsSaidOf alphabet net states count s
  pub begins : BeginsWith 0 said
  pub alone : said ≡ [] → states ≡ 0 ∷ []
