use Rattle.std.proofs.Common.{sym, subst, ◌∙◌}
use Rattle.std.specs.Prelude.{IfOk}
use Rattle.std.proofs.lemmas.Result.{IfOk-weaker}
use Rattle.fsa.specs.Complete.{Accepts}
use Rattle.lang_algebra.specs.Languages.{IsLang}
use Rattle.replace_words.specs.Marked.{IsKept, LeavesNone}
use Rattle.replace_rules.specs.Places.{HasCentreIn, rules_by}
use Rattle.replace_rules.proofs.KeptWords.{kept_optional, kept_obligatory}
use Rattle.replace_rules.proofs.keeping.kept_at.Goals as goal

pub kept_between-requires-clause-left : goal.kept_between-requires-clause-left
kept_between-requires-clause-left c = c.in_ok-left.ensures.over ∙ c.letters-marks.ensures.letters

pub kept_between-requires-clause-right : goal.kept_between-requires-clause-right
kept_between-requires-clause-right c = c.in_ok-right.ensures.over ∙ c.letters-marks.ensures.letters

pub without_centres-requires-clause-left : goal.without_centres-requires-clause-left
without_centres-requires-clause-left c = c.in_ok-left.ensures.over ∙ c.letters-marks.ensures.letters ∙ sym c.in_ok-kept.ensures.over

pub without_centres-requires-clause-right : goal.without_centres-requires-clause-right
without_centres-requires-clause-right c = c.in_ok-right.ensures.over ∙ c.letters-marks.ensures.letters ∙ sym c.in_ok-kept.ensures.over

pub returns-then-optional : goal.returns-then-optional
returns-then-optional c =
    kept_optional c.letters-marks.result.now c.args.words.now c.in_ok-left.left c.in_ok-right.right c.in_ok-kept.kept c.letters-marks.ensures.letters c.args.optional c.args.number c.args.place.now
    c.in_ok-left.ensures c.in_ok-right.ensures c.in_ok-kept.ensures c.if-optional.true

pub returns : goal.returns
returns c =
    let words = c.args.words.now in
    let kept = c.in_ok-kept.kept in
    let left = c.in_ok-left.left in
    let right = c.in_ok-right.right in
    let p = c.args.place.now in
    IfOk-weaker c.without_centres.result (IsLang kept.letters (λ w. Accepts kept w × LeavesNone (HasCentreIn p.maps) (Accepts left) (Accepts right) w)) (IsLang words.letters (λ w. Accepts words w × IsKept rules_by c.args.optional c.args.number p w))
    (λ last is. kept_obligatory c.letters-marks.result.now words left right kept c.letters-marks.ensures.letters c.args.optional c.args.number p c.in_ok-left.ensures c.in_ok-right.ensures c.in_ok-kept.ensures last is c.if-optional.false)
    (subst (λ ms. IfOk c.without_centres.result (IsLang kept.letters (λ w. Accepts kept w × LeavesNone (HasCentreIn ms) (Accepts left) (Accepts right) w))) c.maps.ensures c.without_centres.ensures)
