use Rattle.std.proofs.Common.{◌≡◌, ◌++◌, drop}
use Rattle.expr_leaves.specs.Leaves.{listed_contexts}
use Rattle.expr_leaves.specs.Mapped.{mapped_contexts}
use Rattle.name_resolution.proofs.pairs.add_contexts.Given as goal
use Rattle.name_resolution.specs.Leaves.{pairs_behind, pairs_in_part}
use Rattle.grammar_pairs.specs.Plain.{part_of}
use Rattle.regex_ast.specs.Terms.{contexts_of}

-- what was found, and what is in the other items
abbrev pub invariant-contexts : goal.invariant-contexts
invariant-contexts g l = pairs_behind l.found.items ++ listed_contexts pairs_in_part (mapped_contexts part_of (contexts_of (drop l.context-index l.contexts))) ≡ pairs_behind l.fn.found.items ++ listed_contexts pairs_in_part (mapped_contexts part_of (contexts_of l.contexts))
