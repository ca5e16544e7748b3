use Rattle.std.proofs.Common.{List, subst, sym}
use Rattle.std.specs.List.{Contains}
use Rattle.std.proofs.lemmas.List.{take_all}
use Rattle.std.proofs.lemmas.List.Elements.{Contains-get_or}
use Rattle.two_level.specs.declared.rule.PairContext.{PairContext}
use Rattle.pair_test.specs.Ready.{IsContextTest, Pairwise}
use Rattle.pair_test.proofs.Tested.{pairs_more}
use Rattle.pair_test.proofs.making.context_tests.Goals as goal

pub context_test-requires-clause-within : goal.context_test-requires-clause-within
context_test-requires-clause-within c =
    let x = c.context-item.result in
    c.requires.within x (subst (Contains c.args.contexts.now) (sym c.context-item.is) (Contains-get_or c.args.contexts.now c.contexts.context-index x c.contexts-test.true))

pub contexts-preserved : goal.contexts-preserved
contexts-preserved c =
    pairs_more (IsContextTest c.args.letters.now) c.args.contexts.now c.contexts.context-index c.context-item.result c.contexts.tests.items c.push.new.self.items c.in_ok-context_test.field-0 c.contexts-test.true c.context-item.is c.contexts.invariant
    c.in_ok-context_test.ensures c.in_ok-push.ensures.items

pub returns : goal.returns
returns c =
    subst (λ (z : List PairContext). Pairwise (IsContextTest c.args.letters.now) z c.contexts.tests.items) (take_all c.contexts.context-index c.args.contexts.now c.contexts-test.false) c.contexts.invariant
