use Rattle.std.proofs.lemmas.Result.{IfOk-weaker}
use Rattle.network_sets.proofs.Restrictions.{any_only, any_words}
use Rattle.two_level.proofs.places.any_of.Goals as goal

pub returns-clause-letters : goal.returns-clause-letters
returns-clause-letters g c = IfOk-weaker _ _ _ (λ m. any_only c.args.letters.now c.in_ok-one_letter.field-0 m c.in_ok-one_letter.ensures.letters) c.star-2.ensures.letters

pub returns-clause-words : goal.returns-clause-words
returns-clause-words g c = IfOk-weaker _ _ _ (λ m. any_words c.args.letters.now c.in_ok-one_letter.field-0 m c.in_ok-one_letter.ensures.language) c.star-2.ensures.language
