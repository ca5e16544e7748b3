-- The automaton whose states are places: a state of the network, and what the features of both sides are there. Places and lists of
-- features are numbered in the order in which they are found. What the features are behind an edge is given as a function.
use Rattle.std.specs.Prelude.{◌≡◌, ◌⊎◌, ◌↔◌, ℕ, List, Bool, Option, None, Some, true, Contains, slice_get, length}
use Rattle.fsm_base.specs.declared.letters.Pair.{Pair}
use Rattle.fsa.specs.Automaton.{Automaton, IsFinal}
use Rattle.fsa.specs.declared.automaton.Edge.{Edge}
use Rattle.flag_diacritics.specs.declared.tape.Tape.{Tape}
use Rattle.flag_diacritics.specs.declared.tape.Tape.TheVariants.{Pair as OfPair, UpFlag, LowFlag}
use Rattle.flag_diacritics.specs.declared.tables.Place.{Place}
use Rattle.flag_diacritics.specs.declared.setting.Setting.{Setting}
use Rattle.flag_diacritics.specs.Numbers.{Features, Keeps}

-- the place is that of these features, by their numbers in a list
pub record Shows (features : List (List Setting)) (place : Place) (now : Features) : Type 0 where
  pub upper : slice_get features place.upper ≡ Some now.upper
  pub lower : slice_get features place.lower ≡ Some now.lower

-- the place that an edge leads to, if its flag passes
abbrev pub IsPlaceBehind : (Edge Tape → Features → Option Features) → List (List Setting) → Edge Tape → Features → Option Place → Type 0
IsPlaceBehind step features edge now None = step edge now ≡ None
IsPlaceBehind step features edge now (Some place) = (next : Features) × (step edge now ≡ Some next) × (place.state ≡ edge.to) × Shows features place next

-- what was numbered: places, and lists of what features are
pub record Names : Type 0 where
  pub places : List Place
  pub features : List (List Setting)

-- the number is that of a state and of what the features are
pub record IsAt (names : Names) (number state : ℕ) (now : Features) : Type 0 where
  pub place : Place
  pub stands : slice_get names.places number ≡ Some place
  pub state_is : place.state ≡ state
  pub shows : Shows names.features place now

-- each place is that of some features
abbrev pub AreShown : Names → Type 0
AreShown names = (k : ℕ) (place : Place) → slice_get names.places k ≡ Some place → (now : Features) × Shows names.features place now

-- the letter of the result for one of the network: its pair; a flag is epsilon
abbrev pub letter_for : Option Tape → Option Pair
letter_for None = None
letter_for (Some (OfPair pair)) = Some pair
letter_for (Some (UpFlag n)) = None
letter_for (Some (LowFlag n)) = None

-- an edge of the result stands for one of the network that leads on from these features
pub record Leads (step : Edge Tape → Features → Option Features) (names : Names) (now : Features) (old : Edge Tape) (new : Edge Pair) : Type 0 where
  pub next : Features
  pub passes : step old now ≡ Some next
  pub at : IsAt names new.to old.to next
  pub letter : new.letter ≡ letter_for old.letter

-- from the state with the number, where the features are these, edges were added for those of the network that pass the test, and no
-- others; what was there stayed
pub record AddsEdges (step : Edge Tape → Features → Option Features) (number : ℕ) (now : Features) (P : Edge Tape → Type 0) (old_names : Names) (old_edges : List (Edge Pair)) (names : Names) (edges : List (Edge Pair)) : Type 0 where
  pub places : Keeps old_names.places names.places
  pub features : Keeps old_names.features names.features
  pub shown : AreShown old_names → AreShown names
  pub kept : (e : Edge Pair) → Contains old_edges e → Contains edges e
  pub only : (e : Edge Pair) → Contains edges e → Contains old_edges e ⊎ ((e.from ≡ number) × ((old : Edge Tape) × P old × Leads step names now old e))
  pub all : (old : Edge Tape) (next : Features) → P old → step old now ≡ Some next → (e : Edge Pair) × Contains edges e × (e.from ≡ number) × Leads step names now old e

-- the automaton has the edges between these places, of which the first is that of the start, where all features are neutral
pub record IsResolved (step : Edge Tape → Features → Option Features) (net : Automaton Tape) (first : Features) (names : Names) (edges : List (Edge Pair)) (finals : List Bool) : Type 0 where
  pub start : IsAt names 0 0 first
  pub count : length names.places ≡ length finals
  pub final : (k state : ℕ) (now : Features) → IsAt names k state now → (slice_get finals k ≡ Some true) ↔ IsFinal net state
  pub only : (e : Edge Pair) → Contains edges e → (now : Features) × (old : Edge Tape) × IsAt names e.from old.from now × Contains net.edges old × Leads step names now old e
  pub all : (k : ℕ) (now next : Features) (old : Edge Tape) → IsAt names k old.from now → Contains net.edges old → step old now ≡ Some next → (e : Edge Pair) × Contains edges e × (e.from ≡ k) × Leads step names now old e
