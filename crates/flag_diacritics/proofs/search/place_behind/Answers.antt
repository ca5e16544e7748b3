use Rattle.std.proofs.Common.{Some, ap, subst, ◌∙◌}
use Rattle.std.specs.Prelude.{slice_get}
use Rattle.flag_diacritics.specs.Numbers.{IsNumbered, behind_if}
use Rattle.flag_diacritics.proofs.Searching.{upper_behind, lower_behind}
use Rattle.flag_diacritics.proofs.search.place_behind.Goals as goal

pub returns-in-Some-2-clause-place : goal.returns-in-Some-2-clause-place
returns-in-Some-2-clause-place c = λ now shows.
    let new = c.number_behind.new.features in
    let given = c.in_ok-upper-in-UpFlag.ensures in
    upper_behind c.args.actions.now c.args.features.now new given.kept c.args.place c.args.edge.now now shows c.in-UpFlag.flag (c.in-Some.is ∙ ap Some c.in-UpFlag.is) c.in-Some-2.upper
    (subst (λ o. IsNumbered new o (behind_if now.upper (slice_get c.args.actions.now c.in-UpFlag.flag))) c.in-Some-2.is (given.behind now.upper shows.upper))

pub returns-in-Some-3-clause-place : goal.returns-in-Some-3-clause-place
returns-in-Some-3-clause-place c = λ now shows.
    let new = c.number_behind-in-LowFlag.new.features in
    let given = c.in_ok-lower-in-LowFlag.ensures in
    lower_behind c.args.actions.now c.args.features.now new given.kept c.args.place c.args.edge.now now shows c.in-LowFlag.flag (c.in-Some.is ∙ ap Some c.in-LowFlag.is) c.in-Some-3.lower
    (subst (λ o. IsNumbered new o (behind_if now.lower (slice_get c.args.actions.now c.in-LowFlag.flag))) c.in-Some-3.is (given.behind now.lower shows.lower))
