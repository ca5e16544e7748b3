use Rattle.std.proofs.Common.{sym, ◌∙◌, true≢false}
use Rattle.std.proofs.lemmas.Result.{IfOk-weaker}
use Rattle.body_equality.proofs.Together.{definitions_in, grammar_same, never, pairs_in, sets_in}
use Rattle.body_equality.proofs.grammar.same_grammar.Goals as goal

pub returns-then-not-same_pairs : goal.returns-then-not-same_pairs
returns-then-not-same_pairs c =
    let pairs = rw (c.deref.ensures.value, c.deref-2.ensures.value) at c.same_pairs.ensures in
    never (λ same. true≢false (sym (pairs.1 (pairs_in c.args.numbers.now c.args.other.now c.args.grammar.now same)) ∙ c.if-not-same_pairs.true))

pub returns-then-not-same_sets : goal.returns-then-not-same_sets
returns-then-not-same_sets c =
    let sets = rw (c.deref-3.ensures.value, c.deref-4.ensures.value) at c.same_sets.ensures in
    never (λ same. true≢false (sym (sets.1 (sets_in c.args.numbers.now c.args.other.now c.args.grammar.now same)) ∙ c.if-not-same_sets.true))

pub returns-then-not-branch : goal.returns-then-not-branch
returns-then-not-branch c =
    let definitions = rw (c.deref-5.ensures.value, c.deref-6.ensures.value) at c.in_ok-same_definitions.ensures in
    never (λ same. true≢false (sym (definitions.1 (definitions_in c.args.numbers.now c.args.other.now c.args.grammar.now same)) ∙ c.if-not-branch.true))

pub returns : goal.returns
returns c =
    let pairs = rw (c.deref.ensures.value, c.deref-2.ensures.value) at c.same_pairs.ensures in
    let sets = rw (c.deref-3.ensures.value, c.deref-4.ensures.value) at c.same_sets.ensures in
    let definitions = rw (c.deref-5.ensures.value, c.deref-6.ensures.value) at c.in_ok-same_definitions.ensures in
    let rules = rw (c.deref-7.ensures.value, c.deref-8.ensures.value) at c.same_rules.ensures in
    IfOk-weaker c.same_rules.result _ _
    (λ same told. grammar_same c.args.numbers.now c.args.other.now c.args.grammar.now (pairs.0 c.if-not-same_pairs.false) (sets.0 c.if-not-same_sets.false) (definitions.0 c.if-not-branch.false) same told)
    rules
