use Rattle.std.proofs.Common.{◌≡◌, ◌++◌, drop, map}
use Rattle.std.specs.List.{flat_map}
use Rattle.name_resolution.proofs.pairs.add_rules.Given as goal
use Rattle.name_resolution.specs.Leaves.{pairs_behind, pairs_in_rule}
use Rattle.grammar_pairs.specs.Plain.{rule_of}

-- what was found, and what is in the other items
abbrev pub invariant-rules : goal.invariant-rules
invariant-rules g l = pairs_behind l.found.items ++ flat_map pairs_in_rule (map rule_of (drop l.rule-index l.rules)) ≡ pairs_behind l.fn.found.items ++ flat_map pairs_in_rule (map rule_of l.rules)
