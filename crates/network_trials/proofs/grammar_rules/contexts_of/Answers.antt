use Rattle.std.proofs.Common.{List, sym, subst}
use Rattle.std.specs.List.{Contains}
use Rattle.two_level.specs.Rules.{IsContextOver}
use Rattle.two_level.specs.declared.rule.PairContext.{PairContext}
use Rattle.network_trials.proofs.Lists.{all_more}
use Rattle.network_trials.proofs.grammar_rules.contexts_of.Goals as goal

pub contexts-preserved : goal.contexts-preserved
contexts-preserved c =
    subst (λ (l : List PairContext). (d : PairContext) → Contains l d → IsContextOver c.args.pairs.now d) (sym c.in_ok-push.ensures.items)
    (all_more (IsContextOver c.args.pairs.now) c.contexts.contexts.items c.in_ok-context_of.field-0 c.contexts.invariant c.in_ok-context_of.ensures)
