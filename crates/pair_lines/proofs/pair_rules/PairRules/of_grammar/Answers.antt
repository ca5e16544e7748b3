use Rattle.std.proofs.Common.{List, ap, subst, sym, ◌∙◌, map}
use Rattle.std.specs.List.{Contains}
use Rattle.fsm_base.specs.declared.letters.Pair.{Pair}
use Rattle.pair_test.specs.Ready.{AreTests}
use Rattle.regex_ast.specs.declared.expr.Atom.{Atom}
use Rattle.regex_ast.specs.declared.twolc.TwoLevelRule.{TwoLevelRule}
use Rattle.two_level.specs.Rules.{IsRuleOver}
use Rattle.two_level.specs.declared.rule.LangRule.{LangRule}
use Rattle.pair_lines.proofs.Standing.{are_of_grammar, are_ready}
use Rattle.pair_lines.proofs.pair_rules.PairRules.of_grammar.Goals as goal

pub of-requires : goal.of-requires
of-requires c =
    subst (λ (ls : List LangRule). (r : LangRule) → Contains ls r → IsRuleOver c.deref.result.now r) (sym c.deref-2.ensures.value)
    (subst (λ (ps : List Pair). (r : LangRule) → Contains c.in_ok-made.made.rules.items r → IsRuleOver ps r) (sym c.deref.ensures.value) c.in_ok-made.ensures.over)

pub invariant_of-result-2 : goal.invariant_of-result-2
invariant_of-result-2 c =
    let made = c.in_ok-made.made in
    let own = subst (λ (ps : List Pair). AreTests ps c.deref-2.result.now c.in_ok-tests.tests) c.deref.ensures.value c.in_ok-tests.ensures in
    let tests = subst (λ (ls : List LangRule). AreTests made.pairs.items ls c.in_ok-tests.tests) c.deref-2.ensures.value own in
    let named = c.in_ok-names_of.ensures.names ∙ ap (map (λ (r : TwoLevelRule Atom). r.name)) c.deref-3.ensures.value in
    are_ready c.args.grammar.now made c.in_ok-made.ensures _ (subst (AreTests made.pairs.items made.rules.items) (sym c.tests.view_is) tests) c.in_ok-of.ensures named c.in_ok-names_of.ensures.few

pub returns-clause-rules : goal.returns-clause-rules
returns-clause-rules c = λ over.
    let made = c.in_ok-made.made in
    let own = subst (λ (ps : List Pair). AreTests ps c.deref-2.result.now c.in_ok-tests.tests) c.deref.ensures.value c.in_ok-tests.ensures in
    let tests = subst (λ (ls : List LangRule). AreTests made.pairs.items ls c.in_ok-tests.tests) c.deref-2.ensures.value own in
    let named = c.in_ok-names_of.ensures.names ∙ ap (map (λ (r : TwoLevelRule Atom). r.name)) c.deref-3.ensures.value in
    are_of_grammar c.args.grammar.now made c.in_ok-made.ensures _ (subst (AreTests made.pairs.items made.rules.items) (sym c.tests.view_is) tests) c.in_ok-of.ensures named c.args.alphabet.now c.symbols-symbols.ensures.formed c.in_ok-numbers_of.ensures over
