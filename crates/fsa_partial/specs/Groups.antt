-- The edges of an automaton by their letters.
use Rattle.std.specs.Prelude.{◌≡◌, ◌<◌, ◌↔◌, ℕ, List, Option, Some, Contains, slice_get, length}
use Rattle.std.specs.Prelude.{Vec}
use Rattle.std.specs.Global.{Global}
use Rattle.fsa.specs.declared.automaton.Edge.{Edge}
use Rattle.fsa_partial.specs.declared.grouping.Arc.{Arc}

-- these are the edges with the letter
abbrev pub IsGroup : {L : Type 0} → List (Edge L) → L → List Arc → Type 0
IsGroup edges x arcs = (s t : ℕ) → Contains arcs (record { from = s; to = t }) ↔ Contains edges (record { from = s; letter = Some x; to = t })

-- each edge reads a letter, and there is a group for each letter
pub record AreGroups {L : Type 0} (edges : List (Edge L)) (groups : List (Vec Arc Global)) : Type 0 where
  pub each : (k : ℕ) (arcs : Vec Arc Global) → slice_get groups k ≡ Some arcs → (x : L) × IsGroup edges x arcs.items
  pub all : (e : Edge L) → Contains edges e → (x : L) × (e.letter ≡ Some x) × ((k : ℕ) × ((arcs : Vec Arc Global) × (slice_get groups k ≡ Some arcs) × IsGroup edges x arcs.items))

-- the groups of some edges, while more are added: the letter of each is found with its place
pub record IsGrouping {L : Type 0} (edges : List (Edge L)) (find : L → Option ℕ) (groups : List (Vec Arc Global)) : Type 0 where
  pub within : (x : L) (k : ℕ) → find x ≡ Some k → k < length groups
  pub once : (x y : L) (k : ℕ) → find x ≡ Some k → find y ≡ Some k → x ≡ y
  pub named : (k : ℕ) → k < length groups → (x : L) × (find x ≡ Some k)
  pub group : (x : L) (k : ℕ) (arcs : Vec Arc Global) → find x ≡ Some k → slice_get groups k ≡ Some arcs → IsGroup edges x arcs.items
  pub found : (e : Edge L) → Contains edges e → (x : L) × (e.letter ≡ Some x) × ((k : ℕ) × (find x ≡ Some k))

-- no two of the edges with a letter leave the same state
abbrev pub LeaveApart : List Arc → Type 0
LeaveApart arcs = (a b : Arc) → Contains arcs a → Contains arcs b → a.from ≡ b.from → a ≡ b
