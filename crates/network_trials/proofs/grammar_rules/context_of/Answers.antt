use Rattle.std.proofs.Common.{List, subst, ◌∙◌}
use Rattle.std.specs.List.{Contains}
use Rattle.fsm_base.specs.declared.letters.Bound.{Bound}
use Rattle.fsm_base.specs.declared.letters.Pair.{Pair}
use Rattle.network_trials.proofs.Lists.{all_distinct}
use Rattle.network_trials.proofs.grammar_rules.context_of.Goals as goal

pub of-requires-clause-distinct : goal.of-requires-clause-distinct
of-requires-clause-distinct c = rw (c.deref.ensures.value ∙ c.in_ok-letters.ensures) (all_distinct c.args.pairs.now c.requires)

pub of-requires-clause-all : goal.of-requires-clause-all
of-requires-clause-all c x used = let only = rw c.deref-2.ensures.value at c.in_ok-part_of.ensures in rw c.deref.ensures.value (only x used)

pub of-requires-2-clause-distinct : goal.of-requires-2-clause-distinct
of-requires-2-clause-distinct c = rw (c.deref-3.ensures.value ∙ c.in_ok-letters.ensures) (all_distinct c.args.pairs.now c.requires)

pub of-requires-2-clause-all : goal.of-requires-2-clause-all
of-requires-2-clause-all c x used = let only = rw c.deref-4.ensures.value at c.in_ok-part_of-2.ensures in rw c.deref-3.ensures.value (only x used)

pub returns : goal.returns
returns c = (
  λ x h. subst (λ (z : List (Bound Pair)). Contains z x) (c.in_ok-left.ensures.over ∙ c.deref.ensures.value ∙ c.in_ok-letters.ensures) h,
  λ x h. subst (λ (z : List (Bound Pair)). Contains z x) (c.in_ok-right.ensures.over ∙ c.deref-3.ensures.value ∙ c.in_ok-letters.ensures) h,
)
