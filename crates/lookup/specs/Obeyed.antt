-- The words of a graph of symbols and conditions, of which those hold that a word has (Beesley and Karttunen, Finite State Morphology,
-- 2003, chapter 7), and the two steps between a graph and an automaton: to tapes, whose flags are made states, and back from the result.
use Rattle.std.specs.Prelude.{◌≡◌, ◌+◌, ◌⊎◌, ◌↔◌, ℕ, zero, suc, List, Bool, true, None, Some, Contains, slice_get}
use Rattle.std.specs.Option.{option_map}
use Rattle.fsa.specs.Automaton.{Automaton}
use Rattle.fsa.specs.declared.automaton.Edge.{Edge}
use Rattle.fsm_base.specs.declared.letters.Sym.{Sym}
use Rattle.flag_diacritics.specs.declared.tape.Tape.{Tape}
use Rattle.flag_runs.specs.Runs.{tape_of}
use Rattle.fst_flagged.specs.Conditions.{Hold, letters_of}
use Rattle.fst_flagged.specs.declared.condition.Condition.{Condition}
use Rattle.lookup.specs.Graph.{Writes, end}

-- the graph writes symbols and conditions, these hold, and without them it is this word
abbrev pub WritesObeyed : List Condition → List (Edge Sym) → List Sym → Type 0
WritesObeyed conditions edges word = (written : List Sym) × Writes edges written × Hold conditions written × (letters_of written ≡ word)

-- some edge has the letter
abbrev pub HasLetter : List (Edge Sym) → Sym → Type 0
HasLetter edges symbol = (e : Edge Sym) × Contains edges e × (e.letter ≡ Some symbol)

-- the state of a node: the start of a graph is the node 1, and that of an automaton the state 0
abbrev pub swapped : ℕ → ℕ
swapped zero = 1
swapped (suc zero) = 0
swapped (suc (suc n)) = suc (suc n)

-- an edge of the graph as one of the automaton of tapes
abbrev pub tape_edge : List Condition → Edge Sym → Edge Tape
tape_edge conditions e = record { from = swapped e.from; letter = option_map (tape_of conditions) e.letter; to = swapped e.to }

-- an edge of an automaton as one of a graph, in which the state q is the node q + 1
abbrev pub raised : Edge Sym → Edge Sym
raised e = record { from = e.from + 1; letter = e.letter; to = e.to + 1 }

-- the edge to the end from a final state
abbrev pub closing : ℕ → Edge Sym
closing q = record { from = q + 1; letter = None; to = end }

abbrev pub IsRaised : List (Edge Sym) → Edge Sym → Type 0
IsRaised edges e = (x : Edge Sym) × Contains edges x × (e ≡ raised x)

abbrev pub IsClosing : List Bool → Edge Sym → Type 0
IsClosing finals e = (q : ℕ) × (slice_get finals q ≡ Some true) × (e ≡ closing q)

-- the edges are those of the automaton, and those to the end from its final states
abbrev pub AreGraphOf : Automaton Sym → List (Edge Sym) → Type 0
AreGraphOf a edges = (e : Edge Sym) → Contains edges e ↔ (IsRaised a.edges e ⊎ IsClosing a.finals e)
