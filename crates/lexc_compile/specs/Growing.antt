-- An automaton of lexicons to which entries are given one by one.
use Rattle.std.specs.Prelude.{◌≡◌, ◌<◌, ◌++◌, ◌↔◌, ℕ, List, [], ◌∷◌, Contains}
use Rattle.fsa.specs.Automaton.{Automaton, UsesLetter}
use Rattle.fsa.specs.Language.{Accepts}
use Rattle.flag_diacritics.specs.declared.tape.Tape.{Tape}
use Rattle.lexc_compile.specs.declared.entry.LexEntry.{LexEntry}
use Rattle.lexc_compile.specs.declared.steps.Step.{Step}
use Rattle.lexc_compile.specs.Paths.{Adds, Content, PlacedEntry, Uses}
use Rattle.lexc_compile.specs.Blocks.{IsThere}
use Rattle.lexc_compile.specs.Built.{HasEntry, Inside, IsBuilt}

-- so many lexicons, the automaton so far, and the steps of its words
pub record Growing : Type 0 where
  pub count : ℕ
  pub automaton : Automaton Tape
  pub steps : List (Step × ℕ)

-- its lexicon is there, and where a path goes on
abbrev pub IsPlaced : ℕ → PlacedEntry → Type 0
IsPlaced count entry = (entry.place < count) × IsThere count entry.next

-- it is the automaton of these entries, of which the paths begin in the root lexicon, by its place
pub record IsGiven (root : ℕ) (entries : List PlacedEntry) (growing : Growing) : Type 0 where
  pub inside : ℕ → Inside
  pub built : IsBuilt entries growing.count root inside growing.automaton growing.steps
  pub placed : (entry : PlacedEntry) → Contains entries entry → IsPlaced growing.count entry
  pub has : (entry : PlacedEntry) → Contains entries entry → HasEntry growing.count growing.automaton.edges entry

-- it is that of some entries
abbrev pub IsBegun : Growing → Type 0
IsBegun growing = (root : ℕ) × (entries : List PlacedEntry) × IsGiven root entries growing

-- it is given one entry more
abbrev pub Gives : PlacedEntry → Growing → Growing → Type 0
Gives entry old new =
    (new.count ≡ old.count) × ((root : ℕ) (entries : List PlacedEntry) → IsGiven root entries old → IsGiven root (entries ++ entry ∷ []) new)

-- the content adds just the tapes of the network, and uses no other letters
pub record IsSame (content : Content) (net : Automaton Tape) : Type 0 where
  pub adds : (x : List Tape) → Adds content x ↔ Accepts net x
  pub uses : (x : Tape) → Uses content x → UsesLetter net x

-- it is given an entry of the lexicon at a place
abbrev pub GivesEntry : ℕ → LexEntry → Growing → Growing → Type 0
GivesEntry place entry old new = (content : Content) × IsSame content entry.net × Gives (record { place = place; content = content; next = entry.next }) old new
