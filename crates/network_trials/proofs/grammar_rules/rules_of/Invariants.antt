use Rattle.std.specs.List.{Contains}
use Rattle.two_level.specs.Rules.{IsRuleOver}
use Rattle.two_level.specs.declared.rule.LangRule.{LangRule}
use Rattle.network_trials.proofs.grammar_rules.rules_of.Given as goal

abbrev pub invariant-rules : goal.invariant-rules
invariant-rules l = (r : LangRule) → Contains l.rules.items r → IsRuleOver l.pairs r
