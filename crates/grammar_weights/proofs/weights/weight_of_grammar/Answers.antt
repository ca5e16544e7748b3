use Rattle.std.proofs.Common.{◌+◌, ℕ, ap, ◌∙◌, map}
use Rattle.std.specs.Prelude.{reverse, sum_by}
use Rattle.expr_kinds.specs.Forms.{capped}
use Rattle.grammar_pairs.specs.Plain.{definition_of, rule_of}
use Rattle.grammar_weights.specs.Weights.{rule_weight}
use Rattle.grammar_weights.proofs.Weighing.{exact_part}
use Rattle.grammar_weights.proofs.weights.weight_of_grammar.Goals as goal

pub returns : goal.returns
returns c =
    let g = c.args.grammar.now in
    let above = reverse (map definition_of g.definitions.items) in
    let weighed = rw c.deref.ensures.value at c.in_ok-weighed.ensures in
    let rules = rw c.deref-2.ensures.value at (c.in_ok-rules.ensures above weighed) in
    c.together.ensures ∙ exact_part c.in_ok-pairs.pairs c.in_ok-rules.rules (sum_by (rule_weight above) (map rule_of g.rules.items)) rules
    ∙ ap (λ (n : ℕ). capped (n + sum_by (rule_weight above) (map rule_of g.rules.items))) c.in_ok-pairs.ensures
