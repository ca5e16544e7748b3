use Rattle.lookup.proofs.KeptPaths.{IsKept}
use Rattle.std.specs.List.{Contains}
use Rattle.lookup.proofs.kept.between.Given as goal

abbrev pub invariant-loop-edge : goal.invariant-loop-edge
invariant-loop-edge g l =
    IsKept l.edges (λ e. Contains l.left.found e.from × Contains l.entered.found e.to) l.edge-index l.kept.items
