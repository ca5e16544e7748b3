use Rattle.std.proofs.Common.{◌++◌, ◌+◌, ap, arith, drop}
use Rattle.expr_leaves.proofs.Behind.{go_on}
use Rattle.expr_leaves.specs.Leaves.{listed, listed_contexts}
use Rattle.expr_leaves.specs.Mapped.{mapped, mapped_contexts}
use Rattle.name_resolution.proofs.pairs.add_contexts.Goals as goal
use Rattle.name_resolution.specs.Leaves.{pairs_behind, pairs_in_part}
use Rattle.grammar_pairs.specs.Plain.{part_of}
use Rattle.regex_ast.specs.Terms.{contexts_of, term}
use Rattle.word_relations.proofs.Behind.{left_behind}

pub contexts-preserved : goal.contexts-preserved
contexts-preserved g c =
    let x = c.context-item.result in
    go_on (pairs_behind c.contexts.found.items) (pairs_behind c.add_context.new.found.items)
    (listed pairs_in_part (mapped part_of (term x.left)) ++ listed pairs_in_part (mapped part_of (term x.right)))
    (listed_contexts pairs_in_part (mapped_contexts part_of (contexts_of (drop (c.contexts.context-index + 1) c.args.contexts.now)))) _ _ c.in_ok-add_context.ensures
    (ap (λ z. listed_contexts pairs_in_part (mapped_contexts part_of (contexts_of z))) (left_behind c.args.contexts.now c.contexts.context-index x (omega arith) c.context-item.is)) c.contexts.invariant
