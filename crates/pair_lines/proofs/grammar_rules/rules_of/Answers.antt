use Rattle.std.proofs.Common.{List, subst, ◌∙◌}
use Rattle.regex_ast.specs.declared.expr.Atom.{Atom}
use Rattle.regex_ast.specs.declared.twolc.TwoLevelRule.{TwoLevelRule}
use Rattle.network_grammars.specs.Rules.{IsRuleOf, Pairwise}
use Rattle.pair_lines.proofs.Made.{rules_are}
use Rattle.pair_lines.proofs.grammar_rules.rules_of.Goals as goal

pub returns : goal.returns
returns c =
    let scope = c.in_ok-scope.scope in
    let rules = c.in_ok-rules.rules in
    let ruled = subst (λ (z : List (TwoLevelRule Atom)). Pairwise (IsRuleOf scope) z rules.items) c.deref.ensures.value c.in_ok-rules.ensures in
    rules_are c.args.grammar.now c.requires scope c.in_ok-scope.ensures.scope c.in_ok-scope.ensures.built (record { pairs = c.in_ok-pairs.pairs; rules = rules }) ruled (c.in_ok-pairs.ensures.items ∙ c.as_slice.ensures.pairs)
