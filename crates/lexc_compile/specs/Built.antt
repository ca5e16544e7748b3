-- The automaton of lexicons as it grows entry by entry: what is read on the way to each of its states.
use Rattle.std.specs.Prelude.{◌≡◌, ◌+◌, ◌<◌, ◌≤◌, ◌⊎◌, ◌++◌, ◌↔◌, ℕ, List, [], ◌∷◌, Option, Some, false, Contains, length}
use Rattle.std.specs.Option.{option_to_list}
use Rattle.fsa.specs.Automaton.{Automaton, IsWellFormed, IsFinal}
use Rattle.fsa.specs.Language.{Accepts, AcceptsFrom}
use Rattle.fsa.specs.declared.automaton.Edge.{Edge}
use Rattle.fsa_rational.specs.Shapes.{epsilon}
use Rattle.flag_diacritics.specs.declared.tape.Tape.{Tape}
use Rattle.lexc_compile.specs.declared.steps.Step.{Step}
use Rattle.lexc_compile.specs.Paths.{Adds, PlacedEntry, SomeEntryUses}
use Rattle.lexc_compile.specs.Blocks.{home_of, target_of, IsThere}

-- what is read up to a state, from where a path goes on: one word, or what leads to a state of a network
pub data Inside : Type 0 where
  front : Option ℕ → List Tape → Inside
  within : Option ℕ → Automaton Tape → ℕ → Inside

-- where it is read from: a lexicon, or the end
abbrev pub origin_of : Inside → Option ℕ
origin_of (front origin word) = origin
origin_of (within origin net state) = origin

abbrev pub IsRead : Inside → List Tape → Type 0
IsRead (front origin word) x = x ≡ word
IsRead (within origin net state) x = (rest : List Tape) → AcceptsFrom net state rest → Accepts net (x ++ rest)

-- an edge with this letter, or epsilon, goes on within a lexicon
abbrev pub StaysWithin : Inside → Option Tape → Inside → Type 0
StaysWithin before letter after =
    (origin_of before ≡ origin_of after) × ((x : List Tape) → IsRead before x → IsRead after (x ++ option_to_list letter))

-- it ends an entry, and leads to where that goes on
abbrev pub EndsEntry : List PlacedEntry → Inside → Option Tape → Inside → Type 0
EndsEntry entries before letter after =
    (entry : PlacedEntry) × (origin_of before ≡ Some entry.place) × Contains entries entry × (after ≡ front entry.next [])
    × ((x : List Tape) → IsRead before x → Adds entry.content (x ++ option_to_list letter))

abbrev pub GoesOn : List PlacedEntry → Inside → Option Tape → Inside → Type 0
GoesOn entries before letter after = StaysWithin before letter after ⊎ EndsEntry entries before letter after

-- the edge of a step to a state
abbrev pub edge_of : Step × ℕ → Edge Tape
edge_of row = record { from = (row.0).from; letter = Some (row.0).letter; to = row.1 }

-- a step of a word leads to a state at which that much more of the word is read
abbrev pub IsFront : (ℕ → Inside) → Step × ℕ → Type 0
IsFront inside row =
    (origin : Option ℕ) × (word : List Tape) × (inside (row.0).from ≡ front origin word) × (inside row.1 ≡ front origin (word ++ (row.0).letter ∷ []))

-- each state is one at which such tapes are read, of these entries of so many lexicons
pub record IsBuilt (entries : List PlacedEntry) (count root : ℕ) (inside : ℕ → Inside) (m : Automaton Tape) (steps : List (Step × ℕ)) : Type 0 where
  pub formed : IsWellFormed m
  pub homes : count + 2 ≤ length m.finals
  pub final : (p : ℕ) → IsFinal m p ↔ (p ≡ count + 1)
  pub first : Contains m.edges (epsilon 0 (home_of root))
  pub start : inside 0 ≡ front (Some root) []
  pub targets : (next : Option ℕ) → IsThere count next → inside (target_of count next) ≡ front next []
  pub follows : (e : Edge Tape) → Contains m.edges e → GoesOn entries (inside e.from) e.letter (inside e.to)
  pub letters : (e : Edge Tape) → Contains m.edges e → (x : Tape) → e.letter ≡ Some x → SomeEntryUses (Contains entries) x
  pub taken : (row : Step × ℕ) → Contains steps row → Contains m.edges (edge_of row)
  pub fronts : (row : Step × ℕ) → Contains steps row → IsFront inside row

-- the edges lead from a state by the word to another, and lead so too where there are more
abbrev pub Leads : List (Edge Tape) → ℕ → List Tape → ℕ → Type 0
Leads edges p word q =
    (more : Automaton Tape) → ((e : Edge Tape) → Contains edges e → Contains more.edges e)
    → (rest : List Tape) → AcceptsFrom more q rest → AcceptsFrom more p (word ++ rest)

-- the edges lead from the entry's lexicon by each tape that it adds to where a path goes on
abbrev pub HasEntry : ℕ → List (Edge Tape) → PlacedEntry → Type 0
HasEntry count edges entry = (word : List Tape) → Adds entry.content word → Leads edges (home_of entry.place) word (target_of count entry.next)

-- each step's edge is there, and leads to a state that is
abbrev pub IsTable : List (Step × ℕ) → Automaton Tape → Type 0
IsTable steps m = (row : Step × ℕ) → Contains steps row → Contains m.edges (edge_of row) × (row.1 < length m.finals)

-- the state of the step was there
abbrev pub FindsStep : Step → Automaton Tape → List (Step × ℕ) → Automaton Tape → List (Step × ℕ) → ℕ → Type 0
FindsStep step m steps new more to = (new ≡ m) × (more ≡ steps) × Contains steps (step, to)

-- there was none, and it was added with its edge
abbrev pub AddsStep : Step → Automaton Tape → List (Step × ℕ) → Automaton Tape → List (Step × ℕ) → ℕ → Type 0
AddsStep step m steps new more to =
    ((k : ℕ) → ¬ Contains steps (step, k)) × (to ≡ length m.finals)
    × (new ≡ record { edges = m.edges ++ edge_of (step, to) ∷ []; finals = m.finals ++ false ∷ [] }) × (more ≡ steps ++ (step, to) ∷ [])

abbrev pub TakesStep : Step → Automaton Tape → List (Step × ℕ) → Automaton Tape → List (Step × ℕ) → ℕ → Type 0
TakesStep step m steps new more to = FindsStep step m steps new more to ⊎ AddsStep step m steps new more to

-- the letters of the tape are those of entries
abbrev pub AreUsed : List PlacedEntry → List Tape → Type 0
AreUsed entries tape = (x : Tape) → Contains tape x → SomeEntryUses (Contains entries) x

-- the automaton is as it is to be, and this is what is read at a state
abbrev pub IsBuiltWith : List PlacedEntry → ℕ → ℕ → Automaton Tape → List (Step × ℕ) → ℕ → Inside → Type 0
IsBuiltWith entries count root m steps p read = (inside : ℕ → Inside) × IsBuilt entries count root inside m steps × (inside p ≡ read)

-- the letters of the tape lead from one state to another, and the automaton stays as it is to be
pub record Walks (from : ℕ) (tape : List Tape) (m : Automaton Tape) (steps : List (Step × ℕ))
    (new : Automaton Tape) (more : List (Step × ℕ)) (to : ℕ) : Type 0 where
  pub kept : (e : Edge Tape) → Contains m.edges e → Contains new.edges e
  pub longer : length m.finals ≤ length new.finals
  pub there : to < length new.finals
  pub table : IsTable more new
  pub leads : Leads new.edges from tape to
  pub built : (entries : List PlacedEntry) (count root : ℕ) (inside : ℕ → Inside) (origin : Option ℕ) (word : List Tape)
      → AreUsed entries tape → IsBuilt entries count root inside m steps → inside from ≡ front origin word
      → IsBuiltWith entries count root new more to (front origin (word ++ tape))

-- an entry was added, and the automaton stays as it is to be
pub record AddsEntry (count : ℕ) (entry : PlacedEntry) (m : Automaton Tape) (steps : List (Step × ℕ))
    (new : Automaton Tape) (more : List (Step × ℕ)) : Type 0 where
  pub kept : (e : Edge Tape) → Contains m.edges e → Contains new.edges e
  pub has : HasEntry count new.edges entry
  pub built : (entries : List PlacedEntry) (root : ℕ) (inside : ℕ → Inside)
      → Contains entries entry → IsBuilt entries count root inside m steps
      → (around : ℕ → Inside) × IsBuilt entries count root around new more
