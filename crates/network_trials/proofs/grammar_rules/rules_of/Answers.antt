use Rattle.std.proofs.Common.{List, Option, sym, subst}
use Rattle.std.specs.List.{Contains}
use Rattle.std.specs.Option.{IfSome}
use Rattle.two_level.specs.Rules.{IsRuleOver}
use Rattle.two_level.specs.declared.rule.LangRule.{LangRule}
use Rattle.network_trials.proofs.Lists.{all_more}
use Rattle.network_trials.proofs.grammar_rules.rules_of.Goals as goal

pub rules-preserved-in-Continue-branch-3 : goal.rules-preserved-in-Continue-branch-3
rules-preserved-in-Continue-branch-3 c =
    let over = subst (λ (o : Option LangRule). IfSome o (IsRuleOver c.args.pairs.now)) c.in-Some-2.is c.in_ok-rule.ensures in
    subst (λ (l : List LangRule). (r : LangRule) → Contains l r → IsRuleOver c.args.pairs.now r) (sym c.in_ok-push.ensures.items) (all_more (IsRuleOver c.args.pairs.now) c.rules.rules.items c.in-Some-2.rule c.rules.invariant over)
