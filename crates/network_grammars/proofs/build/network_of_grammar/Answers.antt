use Rattle.std.proofs.Common.{List, sym, subst}
use Rattle.std.proofs.lemmas.Result.{IfOk-weaker}
use Rattle.std.specs.List.{Contains}
use Rattle.fsm_base.specs.declared.letters.Pair.{Pair}
use Rattle.word_relations.specs.Relations.{AreSame}
use Rattle.regex_ast.specs.declared.expr.Atom.{Atom}
use Rattle.regex_ast.specs.declared.twolc.TwoLevelRule.{TwoLevelRule}
use Rattle.fst_algebra.specs.Relation.{IsRelated}
use Rattle.network_algebra.specs.Networks.{UsesOnly}
use Rattle.two_level.specs.Rules.{GrammarRelates, IsRuleOver}
use Rattle.two_level.specs.declared.rule.LangRule.{LangRule}
use Rattle.network_grammars.specs.Rules.{IsRuleOf, Pairwise}
use Rattle.network_grammars.proofs.Grammared.{rule_over}
use Rattle.network_grammars.proofs.Networked.{network_meant, network_over, relation_kind}
use Rattle.network_grammars.proofs.build.network_of_grammar.Goals as goal

pub grammar-requires-clause-rules : goal.grammar-requires-clause-rules
grammar-requires-clause-rules c =
    let scope = c.in_ok-scope.scope in
    let rules = c.in_ok-rules.rules.items in
    let ruled = subst (λ (z : List (TwoLevelRule Atom)). Pairwise (IsRuleOf scope) z rules) c.deref.ensures.value c.in_ok-rules.ensures in
    subst (λ (z : List Pair). (r : LangRule) → Contains c.deref-2.result.now r → IsRuleOver z r) (sym c.as_slice.ensures.pairs)
    (subst (λ (z : List LangRule). (r : LangRule) → Contains z r → IsRuleOver scope.pairs r) (sym c.deref-2.ensures.value) (rule_over c.args.grammar.now scope c.in_ok-scope.ensures.built rules ruled))

pub returns-clause-letters : goal.returns-clause-letters
returns-clause-letters c =
    let scope = c.in_ok-scope.scope in
    let rules = c.in_ok-rules.rules.items in
    let m = c.in_ok-pairs.pairs in
    let ruled = subst (λ (z : List (TwoLevelRule Atom)). Pairwise (IsRuleOf scope) z rules) c.deref.ensures.value c.in_ok-rules.ensures in
    let only = subst (λ (z : List Pair). UsesOnly z m) c.as_slice.ensures.pairs c.in_ok-pairs.ensures.pairs in
    IfOk-weaker _ _ _ (λ n. network_over c.args.grammar.now c.requires scope c.in_ok-scope.ensures.scope c.in_ok-scope.ensures.built rules ruled m only n) c.reduced.ensures.letters

pub returns-clause-kind : goal.returns-clause-kind
returns-clause-kind c = IfOk-weaker _ _ _ (λ n. relation_kind c.in_ok-pairs.pairs n) c.reduced.ensures.meaning

pub returns-clause-meaning : goal.returns-clause-meaning
returns-clause-meaning c =
    let scope = c.in_ok-scope.scope in
    let rules = c.in_ok-rules.rules.items in
    let m = c.in_ok-pairs.pairs in
    let ruled = subst (λ (z : List (TwoLevelRule Atom)). Pairwise (IsRuleOf scope) z rules) c.deref.ensures.value c.in_ok-rules.ensures in
    let related = subst (λ (z : List LangRule). AreSame (IsRelated m) (GrammarRelates scope.pairs z)) c.deref-2.ensures.value
    (subst (λ (z : List Pair). AreSame (IsRelated m) (GrammarRelates z c.deref-2.result.now)) c.as_slice.ensures.pairs c.in_ok-pairs.ensures.relation) in
    IfOk-weaker _ _ _ (λ n. network_meant c.args.grammar.now c.requires scope c.in_ok-scope.ensures.scope c.in_ok-scope.ensures.built rules ruled c.grammar_is_spelled.ensures m n related) c.reduced.ensures.meaning
