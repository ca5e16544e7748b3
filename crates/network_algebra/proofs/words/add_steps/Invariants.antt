use Rattle.std.proofs.Common.{◌≡◌, ◌<◌, ◌↔◌}
use Rattle.std.specs.Prelude.{Contains}
use Rattle.fsa.specs.declared.automaton.Edge.{Edge}
use Rattle.network_algebra.specs.Words.{IsStep}
use Rattle.network_algebra.proofs.words.add_steps.Given as goal

-- the edges of the places so far
abbrev pub invariant-steps : goal.invariant-steps
invariant-steps g l = record {
  edges : (e : Edge g.row.L.Denot) → Contains l.m.edges e ↔ (IsStep l.letters e × (e.from < l.place));
  finals : l.m.finals ≡ l.fn.m.finals;
}
