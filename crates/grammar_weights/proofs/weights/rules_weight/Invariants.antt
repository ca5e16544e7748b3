use Rattle.std.proofs.Common.{List, drop, map}
use Rattle.std.specs.Prelude.{sum_by}
use Rattle.regex_ast.specs.declared.expr.Atom.{Atom}
use Rattle.project_meaning.specs.Trees.{PairDefinition}
use Rattle.grammar_pairs.specs.Plain.{rule_of}
use Rattle.grammar_weights.specs.Weighed.{IsWeighed}
use Rattle.grammar_weights.specs.Weights.{rule_weight}
use Rattle.grammar_weights.proofs.Weighing.{IsSumSo}
use Rattle.grammar_weights.proofs.weights.rules_weight.Given as goal

-- the other rules are left
abbrev pub invariant-rules : goal.invariant-rules
invariant-rules l =
    (above : List (PairDefinition Atom)) → IsWeighed l.weighed above
    → IsSumSo l.weight (sum_by (rule_weight above) (map rule_of (drop l.rule-index l.rules))) (sum_by (rule_weight above) (map rule_of l.rules))
