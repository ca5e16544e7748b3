-- The nodes that edges lead to from a root, as a tree (Cormen, Leiserson, Rivest and Stein, Introduction to
-- Algorithms, section 22.2): each was reached by an edge from one that was found before it.
use Rattle.std.specs.Prelude.{◌≡◌, ◌<◌, ◌≤◌, ◌↔◌, ◌⊎◌, ◌++◌, [], ◌∷◌, ℕ, List, Option, Some, None, Contains, length, slice_get, take}
use Rattle.fsa.specs.declared.automaton.Edge.{Edge}
use Rattle.lookup.specs.Graph.{Leads}
use Rattle.lookup.specs.declared.tree.Step.{Step}
use Rattle.lookup.specs.declared.tree.Tree.{Tree}

-- the edge the other way round
abbrev pub reversed : {L : Type 0} → Edge L → Edge L
reversed e = record { from = e.to; letter = e.letter; to = e.from }

-- these are those edges, each the other way round
abbrev pub AreReversed : {L : Type 0} → List (Edge L) → List (Edge L) → Type 0
AreReversed {L} edges others = (e : Edge L) → Contains others e ↔ Contains edges (reversed e)

-- each step comes from a node with a smaller number
abbrev pub AreDownward : {L : Type 0} → List (Option (Step L)) → Type 0
AreDownward {L} steps = (i : ℕ) (step : Step L) → slice_get steps i ≡ Some (Some step) → step.before < i

-- only the root was found by no step, and the edge of a step leads from the node before to the node found
pub record AreSteps {L : Type 0} (edges : List (Edge L)) (root : ℕ) (found : List ℕ) (steps : List (Option (Step L))) : Type 0 where
  pub count : length steps ≡ length found
  pub rooted : (i : ℕ) → slice_get steps i ≡ Some None → slice_get found i ≡ Some root
  pub downward : AreDownward steps
  pub held : (i : ℕ) (step : Step L) → slice_get steps i ≡ Some (Some step) → Contains edges step.edge
  pub from : (i : ℕ) (step : Step L) → slice_get steps i ≡ Some (Some step) → slice_get found step.before ≡ Some step.edge.from
  pub to : (i : ℕ) (step : Step L) → slice_get steps i ≡ Some (Some step) → slice_get found i ≡ Some step.edge.to

-- the tree has what the edges lead to from the root
pub record IsTree {L : Type 0} (edges : List (Edge L)) (root : ℕ) (tree : Tree L) : Type 0 where
  pub steps : AreSteps edges root tree.reached.found tree.steps.items
  pub nodes : (q : ℕ) → Contains tree.reached.found q ↔ Leads edges root q

-- a tree that grows: the edges that leave its first nodes, so many, were followed
pub record IsGrowing {L : Type 0} (edges : List (Edge L)) (root number : ℕ) (tree : Tree L) : Type 0 where
  pub steps : AreSteps edges root tree.reached.found tree.steps.items
  pub reached : (q : ℕ) → Contains tree.reached.found q → Leads edges root q
  pub root_found : Contains tree.reached.found root
  pub followed : (e : Edge L) → Contains edges e → Contains (take number tree.reached.found) e.from → Contains tree.reached.found e.to
  pub number_within : number ≤ length tree.reached.found

-- what the step's edge enters was found before, or is found now, by the step
abbrev pub AddsStep : {L : Type 0} → Tree L → Step L → Tree L → Type 0
AddsStep old step new =
    (new.reached.bound ≡ old.reached.bound)
    × ((Contains old.reached.found step.edge.to × (new.reached.found ≡ old.reached.found) × (new.steps.items ≡ old.steps.items))
    ⊎ ((new.reached.found ≡ old.reached.found ++ step.edge.to ∷ []) × (new.steps.items ≡ old.steps.items ++ Some step ∷ [])))
