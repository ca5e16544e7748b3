use Rattle.std.proofs.Common.{sym, ◌∙◌}
use Rattle.std.proofs.lemmas.Result.{IfOk-weaker}
use Rattle.fsa.specs.Complete.{Accepts}
use Rattle.lang_algebra.specs.Languages.{IsLang}
use Rattle.replace_words.specs.Filled.{LeavesNoGap}
use Rattle.replace_insertions.specs.Marked.{IsAskedAt}
use Rattle.replace_insertions.proofs.FilledWords.{asked_optional, asked_obligatory}
use Rattle.replace_insertions.proofs.filling.asked_at.Goals as goal

pub kept_between-requires-clause-left : goal.kept_between-requires-clause-left
kept_between-requires-clause-left c = c.in_ok-left.ensures.over ∙ c.letters-marks.ensures.letters

pub kept_between-requires-clause-right : goal.kept_between-requires-clause-right
kept_between-requires-clause-right c = c.in_ok-right.ensures.over ∙ c.letters-marks.ensures.letters

pub without_gaps-requires-clause-left : goal.without_gaps-requires-clause-left
without_gaps-requires-clause-left c = c.in_ok-left.ensures.over ∙ c.letters-marks.ensures.letters ∙ sym c.in_ok-kept.ensures.over

pub without_gaps-requires-clause-right : goal.without_gaps-requires-clause-right
without_gaps-requires-clause-right c = c.in_ok-right.ensures.over ∙ c.letters-marks.ensures.letters ∙ sym c.in_ok-kept.ensures.over

pub returns-then-optional : goal.returns-then-optional
returns-then-optional c =
    asked_optional c.letters-marks.result.now c.args.words.now c.in_ok-left.left c.in_ok-right.right c.in_ok-kept.kept c.letters-marks.ensures.letters c.args.optional c.args.side c.args.number c.args.context.now
    c.in_ok-left.ensures c.in_ok-right.ensures c.in_ok-kept.ensures c.if-optional.true

pub returns : goal.returns
returns c =
    let words = c.args.words.now in
    let kept = c.in_ok-kept.kept in
    let left = c.in_ok-left.left in
    let right = c.in_ok-right.right in
    let p = c.args.context.now in
    IfOk-weaker c.without_gaps.result (IsLang kept.letters (λ w. Accepts kept w × LeavesNoGap (Accepts left) (Accepts right) w)) (IsLang words.letters (λ w. Accepts words w × IsAskedAt c.args.side c.args.optional c.args.number p w))
    (λ last is. asked_obligatory c.letters-marks.result.now words left right kept c.letters-marks.ensures.letters c.args.optional c.args.side c.args.number p c.in_ok-left.ensures c.in_ok-right.ensures c.in_ok-kept.ensures last is c.if-optional.false) c.without_gaps.ensures
