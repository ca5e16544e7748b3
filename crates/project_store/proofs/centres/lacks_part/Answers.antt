use Rattle.std.proofs.Common.{ap, ◌∙◌}
use Rattle.expr_leaves.specs.Leaves.{seen}
use Rattle.project_store.proofs.Trying.{none_lacking, none_lacking_more}
use Rattle.project_store.proofs.centres.lacks_part.Goals as goal

pub leaves-preserved : goal.leaves-preserved
leaves-preserved c = none_lacking_more _ _ c.leaves.leaf-index _ c.leaves-test.true (rw c.if-has_no_network.false at c.has_no_network.ensures.no) c.leaves.invariant

pub returns-clause-no : goal.returns-clause-no
returns-clause-no c = none_lacking _ _ c.leaves.leaf-index _ c.leaves-test.false (ap (λ leaves. seen leaves) c.deref-leaf-items.ensures.value ∙ c.in_ok-leaves.ensures) c.leaves.invariant
