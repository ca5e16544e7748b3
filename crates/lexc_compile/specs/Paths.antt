-- The entries of lexicons, and the paths of these with their tapes (Beesley and Karttunen, Finite State Morphology, 2003, chapter 4):
-- entries, of which the first is of the root lexicon, each following one of the lexicon that the one before names, and the last names
-- none. Lexicons are named by their places, counted from 0.
use Rattle.std.specs.Prelude.{◌≡◌, ◌++◌, ℕ, List, [], ◌∷◌, Option, None, Some, Contains, slice_get}
use Rattle.fsa.specs.Automaton.{Automaton, UsesLetter}
use Rattle.fsa.specs.Language.{Accepts}
use Rattle.flag_diacritics.specs.declared.tape.Tape.{Tape}
use Rattle.lexc_compile.specs.declared.entry.LexEntry.{LexEntry}

-- what an entry adds to the tape of a path: a tape, or one of those of a network
pub data Content : Type 0 where
  word : List Tape → Content
  network : Automaton Tape → Content

abbrev pub Adds : Content → List Tape → Type 0
Adds (word tape) x = x ≡ tape
Adds (network net) x = Accepts net x

abbrev pub Uses : Content → Tape → Type 0
Uses (word tape) x = Contains tape x
Uses (network net) x = UsesLetter net x

-- an entry: the place of its lexicon, what it adds, and the place of the lexicon that a path goes on in, if it does
pub record PlacedEntry : Type 0 where
  pub place : ℕ
  pub content : Content
  pub next : Option ℕ

-- the entries, each of which is there, are a path from where the path has come, with this tape: what each adds, one after another
abbrev pub IsPath : (PlacedEntry → Type 0) → Option ℕ → List PlacedEntry → List Tape → Type 0
IsPath Has None [] tape = tape ≡ []
IsPath Has None (entry ∷ entries) tape = ⊥
IsPath Has (Some place) [] tape = ⊥
IsPath Has (Some place) (entry ∷ entries) tape =
    (front : List Tape) × (rest : List Tape) × Has entry × (entry.place ≡ place) × Adds entry.content front × IsPath Has entry.next entries rest × (tape ≡ front ++ rest)

-- the tape is that of a path from here
abbrev pub HasPath : (PlacedEntry → Type 0) → Option ℕ → List Tape → Type 0
HasPath Has from tape = (path : List PlacedEntry) × IsPath Has from path tape

-- some entry uses the letter
abbrev pub SomeEntryUses : (PlacedEntry → Type 0) → Tape → Type 0
SomeEntryUses Has x = (entry : PlacedEntry) × Has entry × Uses entry.content x

-- the entry is one of the lexicons, each of which has a list of entries
abbrev pub IsEntryOf : List (List LexEntry) → PlacedEntry → Type 0
IsEntryOf lexicons entry =
    (entries : List LexEntry) × (e : LexEntry) × (slice_get lexicons entry.place ≡ Some entries) × Contains entries e × (entry.content ≡ network e.net) × (entry.next ≡ e.next)
