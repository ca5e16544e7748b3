-- The relation of a text, by paths of arc lines. The first arc of a path leaves state 0, each further one the state that the one before
-- enters, and the last one enters a final state; a path without arcs is one where 0 is final. A path relates its upper symbols to its
-- lower ones. And what a network relates, when its symbols are told by their texts.
use Rattle.std.specs.Prelude.{◌≡◌, ◌<◌, ◌⊎◌, ℕ, List, [], ◌++◌, Option, Some, Contains, length}
use Rattle.std.specs.List.{AllZip, slice_get}
use Rattle.std.specs.Option.{option_to_list}
use Rattle.fsm_base.specs.declared.letters.Sym.{Sym}
use Rattle.fsm_base.specs.declared.letters.Pair.{Pair}
use Rattle.fsa.specs.Automaton.{Automaton, UsesLetter}
use Rattle.fst_algebra.specs.Relation.{IsRelated}
use Rattle.att_text.specs.Lines.{Saying, arc, final, said_in}

-- a path leads from the state, and relates these symbols
pub data Leads (said : List Saying) : ℕ → List (List ℕ) → List (List ℕ) → Type 0 where
  ends : {state : ℕ} → Contains said (final state) → Leads said state [] []
  along : (from to : ℕ) (up low : Option (List ℕ)) (upper lower : List (List ℕ)) → Contains said (arc from to up low) → Leads said to upper lower → Leads said from (option_to_list up ++ upper) (option_to_list low ++ lower)

-- the text relates the symbols
abbrev pub Relates : List ℕ → List (List ℕ) → List (List ℕ) → Type 0
Relates text upper lower = Leads (said_in text) 0 upper lower

-- the network relates words of symbols with these texts
pub record RelatesTexts (HasText : Sym → List ℕ → Type 0) (m : Automaton Pair) (upper lower : List (List ℕ)) : Type 0 where
  pub upper_word : List Sym
  pub lower_word : List Sym
  pub related : IsRelated m upper_word lower_word
  pub upper_texts : AllZip HasText upper_word upper
  pub lower_texts : AllZip HasText lower_word lower

-- the symbol's text in a table
abbrev pub HasTextIn : List (List ℕ) → Sym → List ℕ → Type 0
HasTextIn table symbol text = slice_get table symbol.0 ≡ Some text

-- the network has no other symbols than those of a table
abbrev pub HasSymbolsIn : List (List ℕ) → Automaton Pair → Type 0
HasSymbolsIn table m = (pair : Pair) (symbol : Sym) → UsesLetter m pair → (pair.up ≡ Some symbol) ⊎ (pair.low ≡ Some symbol) → symbol.0 < length table
