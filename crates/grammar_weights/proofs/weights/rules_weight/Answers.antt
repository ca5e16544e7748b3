use Rattle.std.proofs.Common.{◌+◌, ap, drop, map, arith}
use Rattle.std.specs.Prelude.{sum_by}
use Rattle.std.proofs.lemmas.List.{drop_all}
use Rattle.word_relations.proofs.Behind.{left_behind}
use Rattle.expr_kinds.specs.Weights.{weight_of_contexts}
use Rattle.grammar_pairs.specs.Plain.{contexts_in, rule_of}
use Rattle.grammar_weights.specs.Weights.{part_weight, rule_weight}
use Rattle.grammar_weights.proofs.Weighing.{nothing_so, one_part, rule_left, so_ended, so_more}
use Rattle.grammar_weights.proofs.weights.rules_weight.Goals as goal

pub rules-init : goal.rules-init
rules-init c = λ above is. nothing_so (sum_by (rule_weight above) (map rule_of c.args.rules.now))

pub rules-preserved : goal.rules-preserved
rules-preserved c = λ above is.
    let rules = c.args.rules.now in
    let here = c.rule-item.result in
    let own = weight_of_contexts (part_weight above) (contexts_in here.contexts.items) in
    so_more c.rules.weight c.together.result c.together-weight.result (sum_by (rule_weight above) (map rule_of (drop c.rules.rule-index rules))) (sum_by (rule_weight above) (map rule_of rules)) c.in_ok-contexts.contexts 1
    (rule_weight above (rule_of here)) (sum_by (rule_weight above) (map rule_of (drop (c.rules.rule-index + 1) rules))) c.together.ensures c.together-weight.ensures
    (rule_left above (drop c.rules.rule-index rules) (drop (c.rules.rule-index + 1) rules) here (left_behind rules c.rules.rule-index here (omega arith) c.rule-item.is))
    (one_part c.in_ok-contexts.contexts own (rw c.deref.ensures.value at (c.in_ok-contexts.ensures above is))) (c.rules.invariant above is)

pub returns : goal.returns
returns c = λ above is.
    let rules = c.args.rules.now in
    so_ended c.rules.weight (sum_by (rule_weight above) (map rule_of (drop c.rules.rule-index rules))) (sum_by (rule_weight above) (map rule_of rules))
    (ap (λ z. sum_by (rule_weight above) (map rule_of z)) (drop_all c.rules.rule-index rules (omega arith))) (c.rules.invariant above is)
