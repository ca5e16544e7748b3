-- The texts of a graph whose letters are symbols of an alphabet: the texts of the symbols along the paths from
-- its start to its end, joined.
use Rattle.std.specs.Prelude.{◌≡◌, ℕ, List, Some, Contains}
use Rattle.fsa.specs.declared.automaton.Edge.{Edge}
use Rattle.fsm_base.specs.Alphabet.{spelled, symbols_of}
use Rattle.fsm_base.specs.declared.letters.Sym.{Sym}
use Rattle.word_relations.specs.Answers.{Texts}
use Rattle.lookup.specs.Graph.{Writes}

-- the symbols of a word of the graph, as texts
abbrev pub Spells : List (Sym × List ℕ) → List (Edge Sym) → List (List ℕ) → Type 0
Spells alphabet edges texts = (word : List Sym) × Writes edges word × (texts ≡ spelled alphabet word)

-- the text of a word of the graph
abbrev pub GraphTexts : List (Sym × List ℕ) → List (Edge Sym) → List ℕ → Type 0
GraphTexts alphabet edges text = Texts (Spells alphabet edges) text

-- the letters on the edges are symbols of the alphabet
abbrev pub AreOf : List (Sym × List ℕ) → List (Edge Sym) → Type 0
AreOf alphabet edges =
    (e : Edge Sym) (symbol : Sym) → Contains edges e → e.letter ≡ Some symbol → Contains (symbols_of alphabet) symbol
