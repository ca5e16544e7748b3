-- How lexicons lie in one automaton: state 0 is the start, then there is a state for each lexicon, then the end. Behind these are
-- the states that words of a lexicon lead to, and for each other entry the states of its network, which are its block.
use Rattle.std.specs.Prelude.{◌≡◌, ◌+◌, ◌<◌, ◌⊎◌, ◌++◌, ℕ, false, Option, None, Some, Contains, length, replicate}
use Rattle.fsa.specs.Automaton.{Automaton, IsWellFormed}
use Rattle.fsa.specs.declared.automaton.Edge.{Edge}
use Rattle.fsa_rational.specs.Shapes.{epsilon, shifted, ComesFrom, LeavesFinal}
use Rattle.flag_diacritics.specs.declared.tape.Tape.{Tape}

-- the state of a lexicon, and of where a path goes on, among so many lexicons
abbrev pub home_of : ℕ → ℕ
home_of place = place + 1

abbrev pub target_of : ℕ → Option ℕ → ℕ
target_of count None = count + 1
target_of count (Some place) = home_of place

-- a path may go on there: at its end, or in a lexicon that there is
abbrev pub IsThere : ℕ → Option ℕ → Type 0
IsThere count None = Unit {0}
IsThere count (Some place) = place < count

-- an edge of an entry's block, which begins at this state: into it, inside it, or from one of its final states on
abbrev pub IsBlockEdge : ℕ → ℕ → Automaton Tape → Option ℕ → ℕ → Edge Tape → Type 0
IsBlockEdge count place net next begin e =
    (e ≡ epsilon (home_of place) begin) ⊎ (ComesFrom (shifted begin) net.edges e ⊎ LeavesFinal net.finals begin (target_of count next) e)

-- the block of an entry with this network was added, and nothing else
pub record AddsBlock (count place : ℕ) (net : Automaton Tape) (next : Option ℕ) (old new : Automaton Tape) : Type 0 where
  pub formed : IsWellFormed net
  pub finals : new.finals ≡ old.finals ++ replicate (length net.finals) false
  pub kept : (e : Edge Tape) → Contains old.edges e → Contains new.edges e
  pub only : (e : Edge Tape) → Contains new.edges e → Contains old.edges e ⊎ IsBlockEdge count place net next (length old.finals) e
  pub all : (e : Edge Tape) → IsBlockEdge count place net next (length old.finals) e → Contains new.edges e
