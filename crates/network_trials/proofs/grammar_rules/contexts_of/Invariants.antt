use Rattle.std.specs.List.{Contains}
use Rattle.two_level.specs.Rules.{IsContextOver}
use Rattle.two_level.specs.declared.rule.PairContext.{PairContext}
use Rattle.network_trials.proofs.grammar_rules.contexts_of.Given as goal

abbrev pub invariant-contexts : goal.invariant-contexts
invariant-contexts l = (c : PairContext) → Contains l.contexts.items c → IsContextOver l.pairs c
