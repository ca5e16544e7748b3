use Rattle.std.proofs.Common.{IsPermutation, subst, ◌∙◌}
use Rattle.fsa_subset.proofs.Settling.{settled_set, settled_is}
use Rattle.fsa_subset.proofs.subsets.settled.Goals as goal

pub returns-clause-set : goal.returns-clause-set
returns-clause-set c =
    let same = subst (λ ks. IsPermutation ks c.sort_unstable.new.self.items) (c.in_ok-set.ensures.items ∙ c.found.ensures.found) c.sort_unstable.ensures.permutation in
    settled_set c.args.rows.now c.args.states.now c.close.new.states c.in_ok-close.ensures.ok c.found.ensures.bounded c.sort_unstable.new.self.items same

pub returns-clause-settled : goal.returns-clause-settled
returns-clause-settled c =
    let same = subst (λ ks. IsPermutation ks c.sort_unstable.new.self.items) (c.in_ok-set.ensures.items ∙ c.found.ensures.found) c.sort_unstable.ensures.permutation in
    settled_is c.args.rows.now c.args.states.now c.close.new.states c.in_ok-close.ensures.ok c.found.ensures.bounded c.sort_unstable.new.self.items same
