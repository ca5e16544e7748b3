use Rattle.std.proofs.Common.{List, ap, subst, sym, ◌∙◌}
use Rattle.fsm_base.specs.declared.letters.Bound.{Bound}
use Rattle.fsm_base.specs.declared.letters.Pair.{Pair}
use Rattle.word_relations.specs.Words.{IsDistinct}
use Rattle.grammar_pairs.proofs.Found.{pairs_distinct}
use Rattle.pair_test.specs.Ready.{IsRuleTest, IsWithin, Pairwise}
use Rattle.pair_test.specs.Tests.{placed_letters}
use Rattle.pair_test.proofs.Placed.{placed_distinct}
use Rattle.pair_test.proofs.Tested.{over_letters, within_from}
use Rattle.pair_test.proofs.rule_tests.RuleTests.of.Goals as goal

pub rule_tests-requires-clause-distinct : goal.rule_tests-requires-clause-distinct
rule_tests-requires-clause-distinct c =
    let keys = c.in_ok-set.set.keys in
    let letters = c.deref.ensures.value ∙ c.in_ok-letters.ensures ∙ ap (λ (z : List Pair). placed_letters z) c.as_slice.ensures.keys in
    subst (λ (z : List (Bound Pair)). IsDistinct z) (sym letters) (placed_distinct keys (pairs_distinct keys c.as_slice.ensures.unique))

pub rule_tests-requires-clause-within : goal.rule_tests-requires-clause-within
rule_tests-requires-clause-within c = λ r among k inside.
    let keys = c.in_ok-set.set.keys in
    let letters = c.deref.ensures.value ∙ c.in_ok-letters.ensures ∙ ap (λ (z : List Pair). placed_letters z) c.as_slice.ensures.keys in
    subst (λ (z : List (Bound Pair)). IsWithin z k) (sym letters) (within_from keys c.args.pairs.now (λ x h. (c.in_ok-set.ensures x).1 h) r (c.requires r among) k inside)

pub invariant_of-result : goal.invariant_of-result
invariant_of-result c =
    let letters = c.deref.ensures.value ∙ c.in_ok-letters.ensures ∙ ap (λ (z : List Pair). placed_letters z) c.as_slice.ensures.keys in
    let tests = c.in_ok-tests.tests.items in
    over_letters (placed_letters c.in_ok-set.set.keys) c.args.rules.now tests (subst (λ (z : List (Bound Pair)). Pairwise (IsRuleTest z) c.args.rules.now tests) letters c.in_ok-tests.ensures)
