use Rattle.std.proofs.Common.{sym, ◌∙◌}
use Rattle.std.proofs.lemmas.Result.{IfOk-weaker}
use Rattle.replace_directed.proofs.Kept.{kept_there}
use Rattle.replace_directed.proofs.keeping.kept_at.Goals as goal

pub left_words-requires : goal.left_words-requires
left_words-requires c = rw c.letters-marks.ensures.letters c.letters-marks.ensures.complete.distinct

pub right_words-requires : goal.right_words-requires
right_words-requires c = rw c.letters-marks.ensures.letters c.letters-marks.ensures.complete.distinct

pub kept_between-requires-clause-left : goal.kept_between-requires-clause-left
kept_between-requires-clause-left c = c.in_ok-left.ensures.over ∙ c.letters-marks.ensures.letters

pub kept_between-requires-clause-right : goal.kept_between-requires-clause-right
kept_between-requires-clause-right c = c.in_ok-right.ensures.over ∙ c.letters-marks.ensures.letters

pub none_between-requires-clause-middle : goal.none_between-requires-clause-middle
none_between-requires-clause-middle c = c.requires.copies ∙ sym c.letters-marks.ensures.letters ∙ sym c.in_ok-left.ensures.over

pub none_between-requires-clause-right : goal.none_between-requires-clause-right
none_between-requires-clause-right c = c.in_ok-right.ensures.over ∙ sym c.in_ok-left.ensures.over

pub both-requires : goal.both-requires
both-requires c = c.in_ok-uncopied.ensures.over ∙ c.in_ok-left.ensures.over ∙ c.letters-marks.ensures.letters ∙ sym c.in_ok-between.ensures.over

pub none_other-requires-clause-others : goal.none_other-requires-clause-others
none_other-requires-clause-others c = c.requires.others ∙ sym c.letters-marks.ensures.letters ∙ sym c.in_ok-left.ensures.over

pub none_other-requires-clause-right : goal.none_other-requires-clause-right
none_other-requires-clause-right c = c.in_ok-right.ensures.over ∙ sym c.in_ok-left.ensures.over

pub both-requires-2 : goal.both-requires-2
both-requires-2 c = c.in_ok-unbarred.ensures.over ∙ c.in_ok-left.ensures.over ∙ c.letters-marks.ensures.letters ∙ sym c.in_ok-between.ensures.over ∙ sym c.in_ok-first.ensures.over

pub returns : goal.returns
returns c =
    IfOk-weaker _ _ _ (λ last. kept_there c.letters-marks.result.now c.args.words.now c.in_ok-left.left c.in_ok-right.right c.letters-marks.ensures.letters c.args.number c.args.context.now c.in_ok-left.ensures c.in_ok-right.ensures
    c.args.size c.args.copies.now c.args.others.now c.in_ok-between.between c.in_ok-uncopied.uncopied c.in_ok-first.first c.in_ok-unbarred.unbarred last c.in_ok-between.ensures c.in_ok-uncopied.ensures c.in_ok-first.ensures c.in_ok-unbarred.ensures) c.both-2.ensures
