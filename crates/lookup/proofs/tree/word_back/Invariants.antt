use Rattle.std.proofs.Common.{◌≡◌, ℕ, ◌<◌, List, Some, length}
use Rattle.std.specs.List.{slice_get}
use Rattle.fsa.specs.declared.automaton.Edge.{Edge}
use Rattle.lookup.specs.Graph.{Connects}
use Rattle.lookup.specs.Tree.{AreSteps, AreReversed}
use Rattle.lookup.proofs.tree.word_back.Given as goal

abbrev pub invariant-steps : goal.invariant-steps
invariant-steps g l = record {
  inside : l.at < length l.steps;
  back : (edges rows : List (Edge g.row.L.Denot)) (root node : ℕ) (found : List ℕ) → AreReversed edges rows → AreSteps rows root found l.steps → slice_get found l.number ≡ Some node
      → (q : ℕ) × (slice_get found l.at ≡ Some q) × Connects edges node l.word.items q;
}

abbrev pub decreases-steps : goal.decreases-steps
decreases-steps g l = l.at
