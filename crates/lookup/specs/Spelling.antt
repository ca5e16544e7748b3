-- Texts on the edges of a graph, spelled byte by byte over new nodes.
use Rattle.std.specs.Prelude.{◌+◌, ℕ, List, [], ◌∷◌, Option, Some, None, Contains}
use Rattle.fsa.specs.declared.automaton.Edge.{Edge}
use Rattle.fsm_base.specs.Alphabet.{symbols_of, text_of}
use Rattle.fsm_base.specs.declared.letters.Sym.{Sym}
use Rattle.lookup.specs.declared.walk.Byte.{Byte}

-- the text of a symbol, and of none the empty text
abbrev pub text_on : List (Sym × List ℕ) → Option Sym → List ℕ
text_on alphabet None = []
text_on alphabet (Some symbol) = text_of alphabet symbol

-- the letter, if there is one, is of the alphabet
abbrev pub IsOf : List (Sym × List ℕ) → Option Sym → Type 0
IsOf alphabet None = Unit {0}
IsOf alphabet (Some symbol) = Contains (symbols_of alphabet) symbol

-- a path of these bytes from a node to another, over nodes that are numbered from `fresh` on. It ends with a
-- epsilon edge
abbrev pub chain : ℕ → ℕ → List ℕ → ℕ → List (Edge Byte)
chain from fresh [] to = record { from = from; letter = None; to = to } ∷ []
chain from fresh (byte ∷ bytes) to = record { from = from; letter = Some (record { 0 = byte }); to = fresh } ∷ chain fresh (fresh + 1) bytes to
