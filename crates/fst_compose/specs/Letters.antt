-- The letters of a composition, by where their sides come from.
use Rattle.std.specs.Prelude.{◌≡◌, ◌⊎◌, Some, None}
use Rattle.fsm_base.specs.declared.letters.Sym.{Sym}
use Rattle.fsm_base.specs.declared.letters.Pair.{Pair}
use Rattle.fsa.specs.Automaton.{Automaton, UsesLetter}
use Rattle.fst_algebra.specs.Relations.{UsesUpper, UsesLower}

-- a letter of the first transducer that has nothing below
abbrev pub IsOfFirst : Automaton Pair → Pair → Type 0
IsOfFirst r pair = UsesLetter r pair × (pair.low ≡ None)

-- nothing above, and a lower symbol of the second
abbrev pub IsOfSecond : Automaton Pair → Pair → Type 0
IsOfSecond s pair = (pair.up ≡ None) × ((y : Sym) × (pair.low ≡ Some y) × UsesLower s y)

-- the upper side of a letter of the first whose lower symbol stands above in the second
abbrev pub IsOfBoth : Automaton Pair → Automaton Pair → Pair → Type 0
IsOfBoth r s pair = (x : Pair) × (between : Sym) × UsesLetter r x × (x.up ≡ pair.up) × (x.low ≡ Some between) × UsesUpper s between

-- the letter is of the first alone, of the second alone, or of both
abbrev pub IsComposedLetter : Automaton Pair → Automaton Pair → Pair → Type 0
IsComposedLetter r s pair = IsOfFirst r pair ⊎ (IsOfSecond s pair ⊎ IsOfBoth r s pair)

-- the same where the two read their lower sides in common, and the second has its upper side below
abbrev pub IsMetLetter : Automaton Pair → Automaton Pair → Pair → Type 0
IsMetLetter a b pair =
    IsOfFirst a pair
    ⊎ (((pair.up ≡ None) × ((y : Sym) × (pair.low ≡ Some y) × UsesUpper b y)) ⊎ ((x : Pair) × (between : Sym) × UsesLetter a x × (x.up ≡ pair.up) × (x.low ≡ Some between) × UsesLower b between))
