use Rattle.std.proofs.Common.{◌+◌, ap, drop, arith}
use Rattle.std.proofs.lemmas.List.{drop_all}
use Rattle.word_relations.proofs.Behind.{left_behind}
use Rattle.expr_kinds.specs.Weights.{weight_of, weight_of_contexts}
use Rattle.grammar_pairs.specs.Plain.{contexts_in, term_of}
use Rattle.grammar_weights.specs.Weights.{part_weight}
use Rattle.grammar_weights.proofs.Weighing.{both_parts, context_left, nothing_so, so_ended, so_more}
use Rattle.grammar_weights.proofs.weights.contexts_weight.Goals as goal

pub contexts-init : goal.contexts-init
contexts-init c = λ above is. nothing_so (weight_of_contexts (part_weight above) (contexts_in c.args.contexts.now))

pub contexts-preserved : goal.contexts-preserved
contexts-preserved c = λ above is.
    let contexts = c.args.contexts.now in
    let here = c.context-item.result in
    let leaf = part_weight above in
    let left = weight_of leaf (term_of here.left) in
    let right = weight_of leaf (term_of here.right) in
    so_more c.contexts.weight c.together.result c.together-weight.result (weight_of_contexts leaf (contexts_in (drop c.contexts.context-index contexts))) (weight_of_contexts leaf (contexts_in contexts)) c.in_ok-left.left c.in_ok-right.right
    (left + right) (weight_of_contexts leaf (contexts_in (drop (c.contexts.context-index + 1) contexts))) c.together.ensures c.together-weight.ensures
    (context_left leaf (drop c.contexts.context-index contexts) (drop (c.contexts.context-index + 1) contexts) here (left_behind contexts c.contexts.context-index here (omega arith) c.context-item.is))
    (both_parts c.in_ok-left.left c.in_ok-right.right left right (c.in_ok-left.ensures above is) (c.in_ok-right.ensures above is)) (c.contexts.invariant above is)

pub returns : goal.returns
returns c = λ above is.
    let contexts = c.args.contexts.now in
    so_ended c.contexts.weight (weight_of_contexts (part_weight above) (contexts_in (drop c.contexts.context-index contexts))) (weight_of_contexts (part_weight above) (contexts_in contexts))
    (ap (λ z. weight_of_contexts (part_weight above) (contexts_in z)) (drop_all c.contexts.context-index contexts (omega arith))) (c.contexts.invariant above is)
