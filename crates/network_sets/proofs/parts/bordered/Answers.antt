use Rattle.std.proofs.lemmas.Result.{IfOk-weaker}
use Rattle.network_sets.proofs.Splits.{bordered_words, bordered_used}
use Rattle.network_sets.proofs.parts.bordered.Goals as goal

pub returns-clause-letters : goal.returns-clause-letters
returns-clause-letters c =
    IfOk-weaker _ _ _ (λ m. bordered_used c.args.a.now c.in_ok-of_part.field-0 c.in_ok-word.field-0 m c.in_ok-of_part.ensures.letters c.in_ok-word.ensures.letters) c.concat-3.ensures.letters

pub returns-clause-words : goal.returns-clause-words
returns-clause-words c =
    IfOk-weaker _ _ _ (λ m. bordered_words c.args.a.now c.in_ok-of_part.field-0 c.in_ok-word.field-0 m c.in_ok-of_part.ensures.words c.in_ok-word.ensures.language) c.concat-3.ensures.language
