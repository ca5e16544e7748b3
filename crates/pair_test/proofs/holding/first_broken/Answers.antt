use Rattle.std.proofs.Common.{◌+◌, ◌-◌, Bool, List, Option, ℕ, length, subst, sym}
use Rattle.std.specs.List.{Contains}
use Rattle.pair_test.specs.Marks.{AreMarks, IsLeastFound}
use Rattle.pair_test.specs.Tests.{HoldsRound, IsBrokenBy}
use Rattle.pair_test.specs.declared.ready.ContextTest.{ContextTest}
use Rattle.pair_test.proofs.Splitting.{pair_alone, pair_or_gap}
use Rattle.pair_test.proofs.holding.first_broken.Goals as goal

pub holding-requires-clause-fits : goal.holding-requires-clause-fits
holding-requires-clause-fits c = λ t among. c.requires.fits t (subst (λ (z : List ContextTest). Contains z t) c.deref.ensures.value among)

pub holding-requires-2-clause-fits : goal.holding-requires-2-clause-fits
holding-requires-2-clause-fits c = λ t among. c.requires.fits t (subst (λ (z : List ContextTest). Contains z t) c.deref-3.ensures.value among)

pub returns-then-not-is_barred : goal.returns-then-not-is_barred
returns-then-not-is_barred c =
    let word = c.args.spelled.now.word.now in
    let over = c.in_ok-over_pairs.over_pairs.items in
    let are = subst (λ (z : List Bool). AreMarks (HoldsRound c.args.rule.now.contexts.items word 1) (length word + 1 - 1) z) (sym c.deref-2.ensures.value)
    (subst (λ (z : List ContextTest). AreMarks (HoldsRound z word 1) (length word + 1 - 1) over) c.deref.ensures.value c.in_ok-over_pairs.ensures) in
    pair_alone c.args.rule.now word c.deref-2.result.now are c.if-not-is_barred.ensures c.first_pair-pair.result c.first_pair-pair.ensures

pub returns : goal.returns
returns c =
    let word = c.args.spelled.now.word.now in
    let over = c.in_ok-over_pairs.over_pairs.items in
    let gaps = c.in_ok-over_gaps.over_gaps.items in
    let are = subst (λ (z : List Bool). AreMarks (HoldsRound c.args.rule.now.contexts.items word 1) (length word + 1 - 1) z) (sym c.deref-2.ensures.value)
    (subst (λ (z : List ContextTest). AreMarks (HoldsRound z word 1) (length word + 1 - 1) over) c.deref.ensures.value c.in_ok-over_pairs.ensures) in
    let hold = subst (λ (z : List Bool). AreMarks (HoldsRound c.args.rule.now.contexts.items word 0) (length word + 1 - 0) z) (sym c.deref-4.ensures.value)
    (subst (λ (z : List ContextTest). AreMarks (HoldsRound z word 0) (length word + 1 - 0) gaps) c.deref-3.ensures.value c.in_ok-over_gaps.ensures) in
    subst (λ (o : Option ℕ). IsLeastFound (λ k. IsBrokenBy word c.args.rule.now (k + 1)) o) (sym c.earlier.ensures)
    (pair_or_gap c.args.rule.now word c.deref-2.result.now c.deref-4.result.now are hold c.first_pair-pair.result c.first_gap.result c.first_pair-pair.ensures c.first_gap.ensures)
