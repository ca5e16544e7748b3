use Rattle.std.proofs.Common.{◌+◌, subst, sym}
use Rattle.std.specs.List.{Contains}
use Rattle.std.proofs.lemmas.List.Elements.{Contains-get_or}
use Rattle.pair_test.specs.Marks.{IsLeastFound}
use Rattle.pair_test.specs.Tests.{IsBrokenBy}
use Rattle.pair_test.proofs.Judging.{all_kept, first_is, none_before, one_more}
use Rattle.pair_test.proofs.testing.first_of.Goals as goal

pub first_broken-requires-clause-fits : goal.first_broken-requires-clause-fits
first_broken-requires-clause-fits c =
    let t = c.index-rules-number.result in
    c.requires.fits t (subst (Contains c.args.rules.now) (sym c.index-rules-number.is) (Contains-get_or c.args.rules.now c.rules.number t c.rules-test.true))

pub rules-init : goal.rules-init
rules-init c = none_before c.args.spelled.now.word.now c.args.rules.now

pub returns-in-Some : goal.returns-in-Some
returns-in-Some c =
    let word = c.args.spelled.now.word.now in
    let t = c.index-rules-number.result in
    first_is word c.args.rules.now c.rules.number t c.in-Some.before c.rules-test.true c.index-rules-number.is c.rules.invariant
    (subst (IsLeastFound (λ k. IsBrokenBy word t (k + 1))) c.in-Some.is c.in_ok-before.ensures)

pub rules-preserved : goal.rules-preserved
rules-preserved c =
    let word = c.args.spelled.now.word.now in
    let t = c.index-rules-number.result in
    one_more word c.args.rules.now c.rules.number t c.rules-test.true c.index-rules-number.is c.rules.invariant
    (subst (IsLeastFound (λ k. IsBrokenBy word t (k + 1))) c.in_default.is c.in_ok-before.ensures)

pub returns : goal.returns
returns c = all_kept c.args.spelled.now.word.now c.args.rules.now c.rules.number c.rules-test.false c.rules.invariant
