-- A network as it is drawn from lines, one after another. States of the text have places, and those are the states of the network.
use Rattle.std.specs.Prelude.{◌≡◌, ◌≤◌, ◌+◌, ⊤, ℕ, List, [], ◌∷◌, ◌++◌, Bool, true, Option, None, Some, length, Contains, slice_get}
use Rattle.std.specs.List.{list_any}
use Rattle.std.specs.Str.{bytes_eq}
use Rattle.word_relations.specs.Words.{IsDistinct}
use Rattle.fsm_base.specs.Symbols.{IsSymbol}
use Rattle.fsm_base.specs.declared.letters.Pair.{Pair}
use Rattle.fsa.specs.declared.automaton.Edge.{Edge}
use Rattle.att_text.specs.Lines.{Saying, arc, final, said_of}
use Rattle.att_text.specs.Paths.{HasTextIn}
use Rattle.att_text.specs.Sides.{HasSide, upper_side, lower_side}
use Rattle.att_text.specs.Faults.{fault_in, line_fault, most_symbols, with_said}
use Rattle.att_text.specs.declared.faults.AttError.{AttError}
use Rattle.att_text.specs.declared.faults.AttError.TheVariants.{Refused, Memory}

-- what stands at a place of the old list stands there in the new one
abbrev pub Keeps : {X : Type 0} → List X → List X → Type 0
Keeps {X} old new = (place : ℕ) (x : X) → slice_get old place ≡ Some x → slice_get new place ≡ Some x

-- more stands behind the old list
abbrev pub Extends : {X : Type 0} → List X → List X → Type 0
Extends {X} old new = (more : List X) × (new ≡ old ++ more)

-- the edge goes between the places of these states, with these symbols
pub record IsDrawnAs (table : List (List ℕ)) (states : List ℕ) (e : Edge Pair) (p q : ℕ) (up low : Option (List ℕ)) : Type 0 where
  pub from : slice_get states e.from ≡ Some p
  pub to : slice_get states e.to ≡ Some q
  pub upper : HasSide (HasTextIn table) (upper_side e.letter) up
  pub lower : HasSide (HasTextIn table) (lower_side e.letter) low

-- what is said is drawn: an arc as an edge, and a final state as one
abbrev pub IsDrawnFor : List (List ℕ) → List ℕ → List (Edge Pair) → List Bool → Saying → Type 0
IsDrawnFor table states edges finals (arc p q up low) = (e : Edge Pair) × Contains edges e × IsDrawnAs table states e p q up low
IsDrawnFor table states edges finals (final p) = (place : ℕ) × (slice_get states place ≡ Some p) × (slice_get finals place ≡ Some true)

-- the states each once and 0 first, and what is said drawn, and nothing else
pub record IsDrawn (table : List (List ℕ)) (said : List Saying) (states : List ℕ) (edges : List (Edge Pair)) (finals : List Bool) : Type 0 where
  pub start : slice_get states 0 ≡ Some 0
  pub once : IsDistinct states
  pub each : length finals ≡ length states
  pub lines : (s : Saying) → Contains said s → IsDrawnFor table states edges finals s
  pub edges_said : (e : Edge Pair) → Contains edges e → (p : ℕ) × (q : ℕ) × (up : Option (List ℕ)) × (low : Option (List ℕ)) × Contains said (arc p q up low) × IsDrawnAs table states e p q up low
  pub finals_said : (place : ℕ) → slice_get finals place ≡ Some true → (p : ℕ) × (slice_get states place ≡ Some p) × Contains said (final p)

-- the table has no more than the symbols beside those that it had first, and it has all of them
pub record IsBeside (first symbols table : List (List ℕ)) : Type 0 where
  pub few : length table ≤ length first + length symbols
  pub held : (text : List ℕ) → list_any (bytes_eq text) symbols ≡ true → list_any (bytes_eq text) table ≡ true

-- and there is room for as many symbols as a text may have
abbrev pub HasRoom : List (List ℕ) → List (List ℕ) → Type 0
HasRoom symbols table = (first : List (List ℕ)) × IsBeside first symbols table × (length first + most_symbols ≤ 16777216)

-- a side's symbol, if there is one, isn't empty
abbrev pub MayBeSymbol : Option (List ℕ) → Type 0
MayBeSymbol None = ⊤
MayBeSymbol (Some text) = IsSymbol text

abbrev pub HasSymbols : Saying → Type 0
HasSymbols (arc from to up low) = MayBeSymbol up × MayBeSymbol low
HasSymbols (final state) = ⊤

-- the error is the first fault of this line, which stands behind lines with these symbols. Want of memory says nothing of it
abbrev pub IsLineError : ℕ → List (List ℕ) → Option Saying → AttError → Type 0
IsLineError number symbols said (Refused line why) = (line ≡ number) × (line_fault symbols said ≡ Some why)
IsLineError number symbols said (Memory refused) = ⊤

-- a line without fault was drawn, after lines with these symbols
pub record IsAdded (line : List ℕ) (symbols table : List (List ℕ)) (states : List ℕ) (edges : List (Edge Pair)) (finals : List Bool) (new_symbols new_table : List (List ℕ)) (new_states : List ℕ) (new_edges : List (Edge Pair)) (new_finals : List Bool) : Type 0 where
  pub said : Saying
  pub says : said_of line ≡ Some said
  pub faultless : fault_in symbols said ≡ None
  pub symbols_are : new_symbols ≡ with_said said symbols
  pub table_is : new_table ≡ with_said said table
  pub drawn : (lines : List Saying) → IsDrawn table lines states edges finals → IsDrawn new_table (lines ++ said ∷ []) new_states new_edges new_finals
