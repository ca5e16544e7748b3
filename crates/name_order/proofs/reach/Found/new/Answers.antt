use Rattle.name_order.proofs.Adding.{marked_none}
use Rattle.name_order.proofs.reach.Found.new.Goals as goal

pub returns-clause-found : goal.returns-clause-found
returns-clause-found c = rw (c.in_ok-vec.ensures.items_if_clones_equal (λ y h. h), c.new.ensures.items) (marked_none c.args.count)
