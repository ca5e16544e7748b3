use Rattle.std.proofs.Common.{◌≡◌, ◌-◌}
use Rattle.lookup.specs.Tree.{IsGrowing}
use Rattle.lookup.proofs.tree.grow.Given as goal

abbrev pub invariant-loop-number : goal.invariant-loop-number
invariant-loop-number g l = record {
  bound : l.tree.reached.bound ≡ l.count;
  grows : IsGrowing l.rows l.root l.number l.tree;
}

abbrev pub decreases-loop-number : goal.decreases-loop-number
decreases-loop-number g l = l.count - l.number
