use Rattle.std.proofs.Common.{sym, arith}
use Rattle.std.proofs.lemmas.Result.{IfOk-weaker}
use Rattle.two_level.proofs.KeptStrings.{all_rules, grammar_relates, lang_letters, next_rule, through}
use Rattle.two_level.specs.Rules.{KeepsAll}
use Rattle.two_level.proofs.intersection.grammar.Goals as goal

pub returns-clause-pairs : goal.returns-clause-pairs
returns-clause-pairs c = IfOk-weaker _ _ _ (λ m. lang_letters c.args.pairs.now c.loop-rule.strings m c.loop-rule.invariant.over) c.to_fsa.ensures.letters

pub returns-clause-strings : goal.returns-clause-strings
returns-clause-strings c =
    let pairs = c.args.pairs.now in
    let rules = c.args.rules.now in
    let all = all_rules pairs rules c.loop-rule.rule-index c.loop-rule.strings (let past = c.loop-rule-test.false in omega arith) c.loop-rule.invariant in
    IfOk-weaker _ _ _ (λ m. through pairs (KeepsAll pairs rules) c.loop-rule.strings m all) c.to_fsa.ensures.language

pub returns-clause-relation : goal.returns-clause-relation
returns-clause-relation c =
    let pairs = c.args.pairs.now in
    let rules = c.args.rules.now in
    let all = all_rules pairs rules c.loop-rule.rule-index c.loop-rule.strings (let past = c.loop-rule-test.false in omega arith) c.loop-rule.invariant in
    IfOk-weaker _ _ _ (λ m accepts. grammar_relates pairs rules m (through pairs (KeepsAll pairs rules) c.loop-rule.strings m all accepts)) c.to_fsa.ensures.language

pub kept-requires-clause-rule : goal.kept-requires-clause-rule
kept-requires-clause-rule c = c.requires.rules c.rule-item.result (c.loop-rule.rule-index, c.loop-rule-test.true, sym c.rule-item.is)

pub loop-rule-preserved : goal.loop-rule-preserved
loop-rule-preserved c =
    next_rule c.args.pairs.now c.args.rules.now c.loop-rule.rule-index c.rule-item.result c.loop-rule.strings c.in_ok-kept.field-0 c.in_ok-strings-2.strings c.loop-rule-test.true c.rule-item.is c.loop-rule.invariant c.in_ok-kept.ensures c.in_ok-strings-2.ensures
