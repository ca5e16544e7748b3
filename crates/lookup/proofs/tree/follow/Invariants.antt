use Rattle.std.proofs.Common.{◌≡◌, ℕ, take, Some}
use Rattle.std.specs.List.{Contains, slice_get}
use Rattle.fsa.specs.declared.automaton.Edge.{Edge}
use Rattle.lookup.specs.Tree.{IsGrowing}
use Rattle.lookup.proofs.tree.follow.Given as goal

abbrev pub invariant-loop-edge : goal.invariant-loop-edge
invariant-loop-edge g l = record {
  bound : l.tree.reached.bound ≡ l.initial.tree.reached.bound;
  grows : (root : ℕ) → IsGrowing l.rows root l.number l.initial.tree → IsGrowing l.rows root l.number l.tree;
  node : (q : ℕ) → slice_get l.initial.tree.reached.found l.number ≡ Some q → slice_get l.tree.reached.found l.number ≡ Some q;
  targets : (e : Edge g.row.L.Denot) → Contains (take l.edge-index l.edge-items) e → Contains l.tree.reached.found e.to;
}
