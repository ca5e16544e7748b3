use Rattle.std.proofs.Common.{◌∙◌}
use Rattle.std.proofs.lemmas.Result.{IfOk-weaker}
use Rattle.word_relations.specs.Words.{IsOver}
use Rattle.fsa.specs.Language.{Accepts}
use Rattle.replace_directed.proofs.Kept.{kept_full}
use Rattle.replace_directed.proofs.keeping.kept_words.Goals as goal

pub kept_at_each-requires-clause-copies : goal.kept_at_each-requires-clause-copies
kept_at_each-requires-clause-copies c = c.in_ok-copies.ensures.over ∙ c.in_ok-centre.ensures.over

pub kept_at_each-requires-clause-others : goal.kept_at_each-requires-clause-others
kept_at_each-requires-clause-others c = c.in_ok-others.ensures.over ∙ c.in_ok-centre.ensures.over

pub returns : goal.returns
returns c =
    let marks = c.args.marks.now in
    IfOk-weaker _ _ _ (kept_full c.args.size c.args.maps.now c.args.contexts.now marks (λ w. IsOver marks w × Accepts c.args.words.now w) c.in_ok-centre.centre c.in_ok-copies.copies c.in_ok-others.others (λ w h. h.0)
    c.in_ok-centre.ensures c.in_ok-copies.ensures c.in_ok-others.ensures) c.kept_at_each.ensures
