use Rattle.std.proofs.Common.{◌+◌, ap, arith, drop, map}
use Rattle.std.specs.List.{flat_map}
use Rattle.expr_leaves.proofs.Behind.{go_on}
use Rattle.name_resolution.proofs.pairs.add_rules.Goals as goal
use Rattle.name_resolution.specs.Leaves.{pairs_behind, pairs_in_rule}
use Rattle.grammar_pairs.specs.Plain.{rule_of}
use Rattle.word_relations.proofs.Behind.{left_behind}

pub rules-preserved : goal.rules-preserved
rules-preserved g c =
    let r = c.rule-item.result in
    go_on (pairs_behind c.rules.found.items) (pairs_behind c.add_rule.new.found.items) (pairs_in_rule (rule_of r)) (flat_map pairs_in_rule (map rule_of (drop (c.rules.rule-index + 1) c.args.rules.now))) _ _
    c.in_ok-add_rule.ensures (ap (λ z. flat_map pairs_in_rule (map rule_of z)) (left_behind c.args.rules.now c.rules.rule-index r (omega arith) c.rule-item.is)) c.rules.invariant
