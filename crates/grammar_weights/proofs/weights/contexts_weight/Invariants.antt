use Rattle.std.proofs.Common.{List, drop}
use Rattle.regex_ast.specs.declared.expr.Atom.{Atom}
use Rattle.expr_kinds.specs.Weights.{weight_of_contexts}
use Rattle.project_meaning.specs.Trees.{PairDefinition}
use Rattle.grammar_pairs.specs.Plain.{contexts_in}
use Rattle.grammar_weights.specs.Weighed.{IsWeighed}
use Rattle.grammar_weights.specs.Weights.{part_weight}
use Rattle.grammar_weights.proofs.Weighing.{IsSumSo}
use Rattle.grammar_weights.proofs.weights.contexts_weight.Given as goal

-- the other contexts are left
abbrev pub invariant-contexts : goal.invariant-contexts
invariant-contexts l =
    (above : List (PairDefinition Atom)) → IsWeighed l.weighed above
    → IsSumSo l.weight (weight_of_contexts (part_weight above) (contexts_in (drop l.context-index l.contexts))) (weight_of_contexts (part_weight above) (contexts_in l.contexts))
