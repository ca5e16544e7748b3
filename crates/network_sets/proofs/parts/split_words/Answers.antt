use Rattle.std.proofs.lemmas.Result.{IfOk-weaker}
use Rattle.network_sets.proofs.Splits.{split_words_are, split_only}
use Rattle.network_sets.proofs.parts.split_words.Goals as goal

pub returns-clause-letters : goal.returns-clause-letters
returns-clause-letters c =
    IfOk-weaker _ _ _ (λ m. split_only c.args.before.now c.args.part.now c.args.behind.now c.in_ok-front.front c.in_ok-middle.middle c.in_ok-back.back c.in_ok-concat.field-0 m
    c.in_ok-front.ensures.letters c.in_ok-middle.ensures.letters c.in_ok-back.ensures.letters c.in_ok-concat.ensures.letters) c.concat-3.ensures.letters

pub returns-clause-words : goal.returns-clause-words
returns-clause-words c =
    IfOk-weaker _ _ _ (λ m. split_words_are c.args.before.now c.args.part.now c.args.behind.now c.in_ok-front.front c.in_ok-middle.middle c.in_ok-back.back c.in_ok-concat.field-0 m
    c.in_ok-front.ensures.words c.in_ok-middle.ensures.words c.in_ok-back.ensures.words c.in_ok-concat.ensures.language) c.concat-3.ensures.language
