use Rattle.std.proofs.Common.{take}
use Rattle.network_grammars.specs.Rules.{IsRuleOf, Pairwise}
use Rattle.network_grammars.proofs.rules.rules_of.Given as goal

-- the rules so far
abbrev pub invariant-rules : goal.invariant-rules
invariant-rules l = Pairwise (IsRuleOf l.scope) (take l.rule-index l.rules) l.built.items
