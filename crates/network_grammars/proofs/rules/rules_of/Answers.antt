use Rattle.std.proofs.Common.{◌+◌, List, arith, refl, subst, sym, take}
use Rattle.std.proofs.lemmas.List.{take_all}
use Rattle.regex_ast.specs.declared.expr.Atom.{Atom}
use Rattle.regex_ast.specs.declared.twolc.TwoLevelRule.{TwoLevelRule}
use Rattle.two_level.specs.declared.rule.LangRule.{LangRule}
use Rattle.network_grammars.specs.Rules.{IsRuleOf, Pairwise}
use Rattle.network_grammars.proofs.Rows.{pairs_more, rule_forms}
use Rattle.network_grammars.proofs.rules.rules_of.Goals as goal

pub centre-requires-clause-up : goal.centre-requires-clause-up
centre-requires-clause-up c = (rule_forms c.args.rules.now c.requires.forms c.rules.rule-index c.rule-item.result (omega arith) c.rule-item.is).0

pub centre-requires-clause-low : goal.centre-requires-clause-low
centre-requires-clause-low c = (rule_forms c.args.rules.now c.requires.forms c.rules.rule-index c.rule-item.result (omega arith) c.rule-item.is).1

pub contexts_of-requires-clause-forms : goal.contexts_of-requires-clause-forms
contexts_of-requires-clause-forms c = rw c.deref.ensures.value (rule_forms c.args.rules.now c.requires.forms c.rules.rule-index c.rule-item.result (omega arith) c.rule-item.is).2

pub rules-preserved : goal.rules-preserved
rules-preserved c =
    let i = c.rules.rule-index in
    let R = IsRuleOf c.args.scope.now in
    subst (λ (z : List LangRule). Pairwise R (take (i + 1) c.args.rules.now) z) (sym c.in_ok-push.ensures.items)
    (pairs_more R c.args.rules.now i c.rule-item.result c.rules.built.items (record { pair = c.centre.result; kind = c.rule-item.result.kind; contexts = c.in_ok-contexts_of.field-0 }) (omega arith) c.rule-item.is c.rules.invariant
    (record { pair = c.centre.ensures; kind = refl; contexts = rw c.deref.ensures.value at c.in_ok-contexts_of.ensures }))

pub returns : goal.returns
returns c = subst (λ (z : List (TwoLevelRule Atom)). Pairwise (IsRuleOf c.args.scope.now) z c.rules.built.items) (take_all c.rules.rule-index c.args.rules.now (omega arith)) c.rules.invariant
