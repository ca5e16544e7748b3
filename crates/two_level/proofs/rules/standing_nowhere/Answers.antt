use Rattle.std.proofs.Common.{◌∙◌}
use Rattle.std.proofs.lemmas.Result.{IfOk-weaker}
use Rattle.two_level.proofs.MarkedStrings.{filled_letter}
use Rattle.two_level.proofs.KeptStrings.{nowhere_kept}
use Rattle.two_level.proofs.rules.standing_nowhere.Goals as goal

pub of-requires-clause-all : goal.of-requires-clause-all
of-requires-clause-all c x used =
    let r = c.in_ok-wrong.ensures.letters x used in
    filled_letter c.args.pairs.now c.args.fillings.now c.requires.fillings r.0 x (rw (c.deref.ensures.value ∙ c.in_ok-rows.ensures) at r.1)

pub returns : goal.returns
returns c =
    let wrong_is = rw (c.deref.ensures.value ∙ c.in_ok-rows.ensures) at c.in_ok-wrong.ensures.language in
    IfOk-weaker _ _ _ (λ made. nowhere_kept c.args.pairs.now c.args.fillings.now c.args.places.now c.requires.places c.in_ok-to_fsa.field-0 c.in_ok-wrong.wrong c.in_ok-of.field-0 made c.in_ok-to_fsa.ensures.language wrong_is c.in_ok-of.ensures) c.complement-2.ensures
