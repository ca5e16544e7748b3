use Rattle.std.proofs.Common.{◌∙◌, ◌≤◌, length}
use Rattle.lookup.proofs.Growing.{growing_first, growing_last}
use Rattle.lookup.proofs.tree.grow.Goals as goal

pub loop-number-init : goal.loop-number-init
loop-number-init g c = record {
  bound = c.in_ok-tree.ensures.bound;
  grows = growing_first c.args.rows.now c.args.root c.in_ok-tree.tree c.in_ok-tree.ensures.reached c.in_ok-tree.ensures.steps;
}

pub loop-number-preserved : goal.loop-number-preserved
loop-number-preserved g c = record {
  bound = c.in_ok-follow.ensures.bound ∙ c.loop-number.invariant.bound;
  grows = c.in_ok-follow.ensures.grown c.args.root c.loop-number.invariant.grows;
}

pub returns-clause-tree : goal.returns-clause-tree
returns-clause-tree g c =
    let past : length c.loop-number.tree.reached.found ≤ c.loop-number.number = rw c.found.ensures.found at c.loop-number-test.false in
    growing_last c.args.rows.now c.args.root c.loop-number.number c.loop-number.tree past c.loop-number.invariant.grows
