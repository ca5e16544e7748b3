use Rattle.project_model.proofs.Known.{none_known}
use Rattle.project_model.proofs.gathered.GatheredSymbols.new.Goals as goal

pub invariant_of-result : goal.invariant_of-result
invariant_of-result c = rw (c.in_ok-vec.ensures.items_if_clones_equal (λ y h. h), c.new.ensures) none_known
