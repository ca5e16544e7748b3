use Rattle.std.proofs.Common.{◌↔◌, ℕ, take}
use Rattle.std.specs.List.{Contains}
use Rattle.fsa.specs.declared.automaton.Edge.{Edge}
use Rattle.fsa_reduce.proofs.MergedLanguage.{IsMovedOf}
use Rattle.fsa_reduce.proofs.merging.moved_edges.Given as goal

abbrev pub invariant-loop-edge : goal.invariant-loop-edge
invariant-loop-edge l = (f : Edge ℕ) → Contains l.moved.items f ↔ IsMovedOf l.classes (take l.edge-index l.edges) f
