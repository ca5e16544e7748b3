-- What is given of entries to the automaton of lexicons: what they add, and places of lexicons for their names.
use Rattle.std.specs.Prelude.{◌≡◌, ◌++◌, ◌↔◌, ℕ, List, [], Option, None, Some, Contains, slice_get}
use Rattle.fsm_base.specs.declared.letters.Sym.{Sym}
use Rattle.fsm_base.specs.declared.letters.Pair.{Pair}
use Rattle.regex_ast.specs.declared.expr.Atom.{Atom}
use Rattle.regex_ast.specs.declared.lexc.FlagOp.{FlagOp}
use Rattle.project_meaning.specs.Trees.{Piece, Form, Entry, Lexicon}
use Rattle.project_meaning.specs.Lexicons.{FormAdds}
use Rattle.flag_diacritics.specs.Numbers.{Keeps}
use Rattle.flag_diacritics.specs.declared.tape.Tape.{Tape}
use Rattle.flag_diacritics.specs.declared.tape.Tape.TheVariants.{Pair as OfPair}
use Rattle.lexc_compile.specs.Growing.{Gives, Growing, IsGiven}
use Rattle.lexc_compile.specs.Paths.{Adds, Content, PlacedEntry, Uses}
use Rattle.network_expr.specs.Parts.{stands}
use Rattle.network_expr.specs.declared.parts.Part.{Part}
use Rattle.network_lexicons.specs.Plain.{symbol_in}
use Rattle.network_lexicons.specs.Sides.{upper_side, lower_side}

-- the symbols on both sides of the pair are of the alphabet
pub record IsPairOver (alphabet : List Sym) (pair : Pair) : Type 0 where
  pub up : (x : Sym) → pair.up ≡ Some x → Contains alphabet x
  pub low : (x : Sym) → pair.low ≡ Some x → Contains alphabet x

-- some tape that is added has these two sides
abbrev pub HasTape : List FlagOp → Content → List (Piece Sym) → List (Piece Sym) → Type 0
HasTape flags content x y = (tape : List Tape) × Adds content tape × (x ≡ upper_side flags tape) × (y ≡ lower_side flags tape)

-- the pairs of symbols in what is added are over the alphabet
abbrev pub UsesPairsOver : List Sym → Content → Type 0
UsesPairsOver alphabet content = (pair : Pair) → Uses content (OfPair pair) → IsPairOver alphabet pair

-- the tapes that are added have just the sides that the form adds to a path, whatever flags come behind these
abbrev pub HasSidesOf : List Part → List Sym → List FlagOp → Form Atom → Content → Type 0
HasSidesOf parts alphabet flags form content =
    (all : List FlagOp) → Keeps flags all → (x y : List (Piece Sym)) → FormAdds symbol_in (stands parts) alphabet [] form x y ↔ HasTape all content x y

-- the place is that of the lexicon of this name, among those of these names; a path that goes on in none has none
abbrev pub IsPlaceOf : List (List ℕ) → Option (List ℕ) → Option ℕ → Type 0
IsPlaceOf names None None = Unit {0}
IsPlaceOf names None (Some place) = ⊥
IsPlaceOf names (Some name) None = ⊥
IsPlaceOf names (Some name) (Some place) = slice_get names place ≡ Some name

-- the entry by what it adds, and by a place
pub record IsEntryFor (parts : List Part) (alphabet : List Sym) (names : List (List ℕ)) (flags : List FlagOp) (entry : Entry Atom) (given : PlacedEntry) : Type 0 where
  pub symbols : UsesPairsOver alphabet given.content
  pub sides : HasSidesOf parts alphabet flags entry.form given.content
  pub next : IsPlaceOf names entry.next given.next

-- these are the entries of the lexicon at a place that go on in a lexicon that is there, or end a path
pub record AreEntriesFor (parts : List Part) (alphabet : List Sym) (names : List (List ℕ)) (flags : List FlagOp) (place : ℕ) (entries : List (Entry Atom)) (given : List PlacedEntry) : Type 0 where
  pub only : (g : PlacedEntry) → Contains given g → (g.place ≡ place) × ((entry : Entry Atom) × Contains entries entry × IsEntryFor parts alphabet names flags entry g)
  pub all : (entry : Entry Atom) (next : Option ℕ) → Contains entries entry → IsPlaceOf names entry.next next
      → (g : PlacedEntry) × Contains given g × (g.place ≡ place) × IsEntryFor parts alphabet names flags entry g

-- these are such entries of all lexicons
pub record AreLexiconsFor (parts : List Part) (alphabet : List Sym) (names : List (List ℕ)) (flags : List FlagOp) (lexicons : List (Lexicon Atom)) (given : List PlacedEntry) : Type 0 where
  pub only : (g : PlacedEntry) → Contains given g
      → (lexicon : Lexicon Atom) × (entry : Entry Atom) × (slice_get lexicons g.place ≡ Some lexicon) × Contains lexicon.entries entry × IsEntryFor parts alphabet names flags entry g
  pub all : (k : ℕ) (lexicon : Lexicon Atom) (entry : Entry Atom) (next : Option ℕ) → slice_get lexicons k ≡ Some lexicon → Contains lexicon.entries entry → IsPlaceOf names entry.next next
      → (g : PlacedEntry) × Contains given g × (g.place ≡ k) × IsEntryFor parts alphabet names flags entry g

-- an entry of this form is given, of the lexicon at a place
abbrev pub GivesForm : List Part → List Sym → List FlagOp → ℕ → Form Atom → Option ℕ → Growing → Growing → Type 0
GivesForm parts alphabet flags place form next old new =
    (content : Content) × UsesPairsOver alphabet content × HasSidesOf parts alphabet flags form content × Gives (record { place = place; content = content; next = next }) old new

-- such entries are given
abbrev pub GivesAll : (List PlacedEntry → Type 0) → Growing → Growing → Type 0
GivesAll AreRight old new =
    (new.count ≡ old.count) × ((root : ℕ) (before : List PlacedEntry) → IsGiven root before old → (given : List PlacedEntry) × AreRight given × IsGiven root (before ++ given) new)
