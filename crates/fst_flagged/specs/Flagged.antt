-- What a transducer with conditions relates: the sides of each accepted list of pairs whose conditions hold, without these.
use Rattle.std.specs.Prelude.{◌≡◌, ◌+◌, ◌≤◌, ◌<◌, List, Contains, None, Some, length}
use Rattle.fsm_base.specs.declared.letters.Sym.{Sym}
use Rattle.fsm_base.specs.declared.letters.Pair.{Pair}
use Rattle.fsa.specs.Automaton.{Automaton, UsesLetter}
use Rattle.fst_algebra.specs.Relation.{IsRelated}
use Rattle.fst_algebra.specs.Relations.{UsesUpper, UsesLower}
use Rattle.fst_flagged.specs.Conditions.{first, letters_of, Hold}
use Rattle.fst_flagged.specs.declared.condition.Condition.{Condition}

-- a transducer with conditions on its upper side, as contracts see it
pub record FlaggedView : Type 0 where
  pub net : Automaton Pair
  pub conditions : List Condition

-- the transducer relates an upper word whose conditions hold to the lower word; without its conditions it is u
abbrev pub FlaggedRelates : FlaggedView → List Sym → List Sym → Type 0
FlaggedRelates f u w = (x : List Sym) × IsRelated f.net x w × Hold f.conditions x × (letters_of x ≡ u)

-- conditions stand on the upper side, none has a symbol below it, and each is one of the list
pub record StandApart (f : FlaggedView) : Type 0 where
  pub lower : (x : Sym) → UsesLower f.net x → x.0 < first
  pub alone : (pair : Pair) (x : Sym) → UsesLetter f.net pair → pair.up ≡ Some x → first ≤ x.0 → pair.low ≡ None
  pub listed : (x : Sym) → UsesUpper f.net x → x.0 < first + length f.conditions

-- no symbol of the transducer is a condition
pub record HasNoConditions (m : Automaton Pair) : Type 0 where
  pub upper : (x : Sym) → UsesUpper m x → x.0 < first
  pub lower : (x : Sym) → UsesLower m x → x.0 < first

-- the symbols of words on both sides are among these
pub record UsesLetters (symbols : List Sym) (f : FlaggedView) : Type 0 where
  pub upper : (x : Sym) → UsesUpper f.net x → x.0 < first → Contains symbols x
  pub lower : (x : Sym) → UsesLower f.net x → Contains symbols x
