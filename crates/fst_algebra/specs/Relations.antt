-- The symbols that a transducer uses on each side.
use Rattle.std.specs.Prelude.{◌≡◌, Some}
use Rattle.fsm_base.specs.declared.letters.Sym.{Sym}
use Rattle.fsm_base.specs.declared.letters.Pair.{Pair}
use Rattle.fsa.specs.Automaton.{Automaton, UsesLetter}

-- the symbol stands on the upper side of some edge
abbrev pub UsesUpper : Automaton Pair → Sym → Type 0
UsesUpper m symbol = (pair : Pair) × UsesLetter m pair × (pair.up ≡ Some symbol)

-- the symbol stands on the lower side of some edge
abbrev pub UsesLower : Automaton Pair → Sym → Type 0
UsesLower m symbol = (pair : Pair) × UsesLetter m pair × (pair.low ≡ Some symbol)
