-- Loops in a graph: a path from the start to the end that may go round any number of times, and writes more
-- with each round.
use Rattle.std.specs.Prelude.{◌<◌, ◌≤◌, ℕ, zero, suc, List, [], ◌++◌, IsSome, Contains, length, slice_index}
use Rattle.fsa.specs.declared.automaton.Edge.{Edge}
use Rattle.lookup.specs.Graph.{Connects, Leads, start, end}

-- a path comes to a node with these letters, goes round from there to there with some, and leaves to the end
pub record IsTurn {L : Type 0} (edges : List (Edge L)) (before round after : List L) : Type 0 where
  pub node : ℕ
  pub comes : Connects edges start before node
  pub goes_round : Connects edges node round node
  pub leaves : Connects edges node after end
  pub some : 0 < length round

-- no path from the start to the end can go round with letters
abbrev pub HasNoTurn : {L : Type 0} → List (Edge L) → Type 0
HasNoTurn {L} edges = (before round after : List L) → ¬ IsTurn edges before round after

-- the letters of a round, so many times
abbrev pub rounds : {L : Type 0} → ℕ → List L → List L
rounds zero round = []
rounds (suc m) round = round ++ rounds m round

-- the edge has a letter, and stands on a round that a path from the start to the end may take
pub record IsOnTurn {L : Type 0} (edges : List (Edge L)) (e : Edge L) : Type 0 where
  pub letter : IsSome e.letter
  pub comes : Leads edges start e.from
  pub goes_round : Leads edges e.to e.from
  pub leaves : Leads edges e.from end

-- numbers of the nodes that don't rise along an edge, and fall along each edge with a letter. A graph with
-- such numbers has no loop with letters (Cormen, Leiserson, Rivest and Stein, section 22.4: a topological
-- order shows that there is no cycle)
pub record AreLevels {L : Type 0} (edges : List (Edge L)) (levels : List ℕ) : Type 0 where
  pub not_above : (e : Edge L) → Contains edges e → slice_index levels e.to ≤ slice_index levels e.from
  pub below : (e : Edge L) → Contains edges e → IsSome e.letter → slice_index levels e.to < slice_index levels e.from
