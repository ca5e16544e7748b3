use Rattle.std.proofs.Common.{[], ◌∷◌}
use Rattle.expr_leaves.proofs.Behind.{add_both_ok}
use Rattle.expr_leaves.specs.Leaves.{listed_contexts}
use Rattle.expr_leaves.specs.Mapped.{mapped_contexts}
use Rattle.name_resolution.proofs.FormListing.{pushed}
use Rattle.name_resolution.proofs.pairs.add_rule.Goals as goal
use Rattle.name_resolution.specs.Leaves.{pairs_behind, pairs_in_part}
use Rattle.grammar_pairs.specs.Plain.{pair_of, part_of}
use Rattle.regex_ast.specs.Terms.{contexts_of}

pub returns : goal.returns
returns g c =
    add_both_ok (pairs_behind c.args.found.now.items) (pairs_behind c.push.new.self.items) (pairs_behind c.add_contexts.new.found.items) c.add_contexts.result (pair_of c.args.rule.now.pair ∷ [])
    (listed_contexts pairs_in_part (mapped_contexts part_of (contexts_of c.args.rule.now.contexts.items))) (pushed _ _ _ c.in_ok-push.ensures.items) (rw c.deref.ensures.value at c.add_contexts.ensures)
