use Rattle.std.proofs.lemmas.Result.{IfOk-weaker}
use Rattle.network_grammars.proofs.PairWords.{perhaps_only, perhaps_words}
use Rattle.network_grammars.proofs.words.perhaps.Goals as goal

pub returns-clause-letters : goal.returns-clause-letters
returns-clause-letters c = IfOk-weaker _ _ _ (λ m. perhaps_only c.in_ok-empty.empty c.args.words.now c.in_ok-union.field-0 m c.in_ok-empty.ensures.letters c.in_ok-union.ensures.letters) c.reduced-2.ensures.letters

pub returns-clause-words : goal.returns-clause-words
returns-clause-words c = IfOk-weaker _ _ _ (λ m. perhaps_words c.in_ok-empty.empty c.args.words.now c.in_ok-union.field-0 m c.in_ok-empty.ensures.language c.in_ok-union.ensures.language) c.reduced-2.ensures.language
