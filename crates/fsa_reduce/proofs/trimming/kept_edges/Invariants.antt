use Rattle.std.proofs.Common.{[], take}
use Rattle.fsa_reduce.specs.Gains.{Gains, ForSome}
use Rattle.fsa_reduce.specs.Trimmed.{IsRenumbered}
use Rattle.fsa_reduce.proofs.trimming.kept_edges.Given as goal

abbrev pub invariant-loop-edge : goal.invariant-loop-edge
invariant-loop-edge g l = Gains (ForSome (IsRenumbered l.numbers) (take l.edge-index l.edges)) [] l.kept.items
