-- The relation of a network (Beesley and Karttunen, Finite State Morphology, 2003, section 1.6): the two sides of
-- each accepted list of pairs, without the missing symbols. The upper side is the lexical one, the lower side the
-- surface.
use Rattle.std.specs.Prelude.{◌≡◌, List, Option}
use Rattle.std.specs.List.{flat_map}
use Rattle.std.specs.Option.{option_to_list}
use Rattle.fsm_base.specs.declared.letters.Sym.{Sym}
use Rattle.fsm_base.specs.declared.letters.Pair.{Pair}
use Rattle.fsa.specs.Automaton.{Automaton}
use Rattle.fsa.specs.Language.{Accepts}

-- the symbols on one side of the pairs, where there are any
abbrev pub symbols_on : (Pair → Option Sym) → List Pair → List Sym
symbols_on side pairs = flat_map (λ pair. option_to_list (side pair)) pairs

abbrev pub uppers : List Pair → List Sym
uppers pairs = symbols_on (λ pair. pair.up) pairs

abbrev pub lowers : List Pair → List Sym
lowers pairs = symbols_on (λ pair. pair.low) pairs

-- the network relates the upper word to the lower word
abbrev pub IsRelated : Automaton Pair → List Sym → List Sym → Type 0
IsRelated m upper lower = (pairs : List Pair) × Accepts m pairs × (uppers pairs ≡ upper) × (lowers pairs ≡ lower)
