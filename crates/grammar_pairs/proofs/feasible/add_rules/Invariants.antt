use Rattle.std.proofs.Common.{take}
use Rattle.std.specs.List.{flat_map}
use Rattle.grammar_pairs.specs.Feasible.{of_rule}
use Rattle.grammar_pairs.proofs.Growing.{HasMore}
use Rattle.grammar_pairs.proofs.feasible.add_rules.Given as goal

-- the pairs so far
abbrev pub invariant-rules : goal.invariant-rules
invariant-rules l = HasMore l.fn.pairs.keys l.pairs.keys (flat_map of_rule (take l.rule-index l.rules))
