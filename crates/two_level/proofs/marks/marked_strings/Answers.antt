use Rattle.std.proofs.lemmas.Result.{IfOk-weaker}
use Rattle.two_level.proofs.MarkedStrings.{marked_words, marked_only}
use Rattle.two_level.proofs.marks.marked_strings.Goals as goal

pub returns-clause-letters : goal.returns-clause-letters
returns-clause-letters c =
    IfOk-weaker _ _ _ (λ m. marked_only c.args.before.now c.args.behind.now c.in_ok-front.front c.in_ok-place.place c.in_ok-back.back c.in_ok-concat.field-0 m
    c.in_ok-front.ensures.letters c.in_ok-place.ensures.letters c.in_ok-back.ensures.letters c.in_ok-concat.ensures.letters) c.concat-3.ensures.letters

pub returns-clause-words : goal.returns-clause-words
returns-clause-words c =
    IfOk-weaker _ _ _ (λ m. marked_words c.args.before.now c.args.behind.now c.in_ok-front.front c.in_ok-place.place c.in_ok-back.back c.in_ok-concat.field-0 m
    c.in_ok-front.ensures.words c.in_ok-place.ensures.language c.in_ok-back.ensures.words c.in_ok-concat.ensures.language) c.concat-3.ensures.language
