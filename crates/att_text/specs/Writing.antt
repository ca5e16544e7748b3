-- How lines are written, one after another, and what a network's symbols are in them (AT&T FSM Library, the text format of its programs).
use Rattle.std.specs.Prelude.{◌≡◌, ◌≢◌, ◌⊎◌, ◌++◌, ⊤, ℕ, List, [], ◌∷◌, Option, Some, None, Contains, decimal, map}
use Rattle.std.specs.List.{flat_map}
use Rattle.fsm_base.specs.Alphabet.{text_of}
use Rattle.fsm_base.specs.Symbols.{IsSymbol}
use Rattle.fsm_base.specs.declared.letters.Sym.{Sym}
use Rattle.fsm_base.specs.declared.letters.Pair.{Pair}
use Rattle.fsa.specs.Automaton.{Automaton}
use Rattle.fst_algebra.specs.Relations.{UsesUpper, UsesLower}
use Rattle.att_text.specs.Lines.{Saying, arc, final, lines_of, no_symbol, said_in, said_of, state_in}
use Rattle.att_text.specs.Views.{HasNo}

-- a text that may be a symbol's field: it isn't empty and isn't the field of no symbol, and it has neither a tab, 9, nor a newline, 10
pub record IsField (text : List ℕ) : Type 0 where
  pub some : IsSymbol text
  pub other : text ≢ no_symbol
  pub no_tab : HasNo 9 text
  pub no_newline : HasNo 10 text

-- the symbol's text in an alphabet
abbrev pub HasTextOf : List (Sym × List ℕ) → Sym → List ℕ → Type 0
HasTextOf alphabet symbol text = text_of alphabet symbol ≡ text

-- the network has no other symbols than these
abbrev pub UsesOnly : List Sym → Automaton Pair → Type 0
UsesOnly symbols net = (symbol : Sym) → UsesUpper net symbol ⊎ UsesLower net symbol → Contains symbols symbol

-- the field of a side
abbrev pub side_field : Option (List ℕ) → List ℕ
side_field None = no_symbol
side_field (Some text) = text

-- the fields that say this, apart by tabs
abbrev pub fields_saying : Saying → List ℕ
fields_saying (arc from to upper lower) = decimal from ++ 9 ∷ (decimal to ++ 9 ∷ (side_field upper ++ 9 ∷ side_field lower))
fields_saying (final state) = decimal state

-- the lines that say these, each with a newline
abbrev pub text_saying : List Saying → List ℕ
text_saying said = flat_map (λ s. fields_saying s ++ 10 ∷ []) said

-- each line of the text says something
abbrev pub IsAttText : List ℕ → Type 0
IsAttText text = map said_of (lines_of text) ≡ map Some (said_in text)

-- what is said first, if anything, begins with this state
abbrev pub BeginsWith : ℕ → List Saying → Type 0
BeginsWith state [] = ⊤
BeginsWith state (said ∷ more) = state_in said ≡ state
