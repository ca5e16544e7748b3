use Rattle.std.proofs.Common.{take}
use Rattle.std.specs.List.{flat_map}
use Rattle.grammar_pairs.specs.Feasible.{of_context}
use Rattle.grammar_pairs.proofs.Growing.{HasMore}
use Rattle.grammar_pairs.proofs.feasible.add_contexts.Given as goal

-- the pairs so far
abbrev pub invariant-contexts : goal.invariant-contexts
invariant-contexts l = HasMore l.fn.pairs.keys l.pairs.keys (flat_map of_context (take l.context-index l.contexts))
