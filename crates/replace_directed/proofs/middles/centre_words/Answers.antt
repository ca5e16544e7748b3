use Rattle.std.proofs.Common.{◌∙◌}
use Rattle.std.proofs.lemmas.Result.{IfOk-weaker}
use Rattle.replace_directed.proofs.CentreWords.{centred_words}
use Rattle.replace_directed.proofs.middles.centre_words.Goals as goal

pub returns : goal.returns
returns c =
    IfOk-weaker _ _ _ (λ lang. centred_words c.args.marks.now c.args.maps.now c.deref.result.now c.in_ok-words.words c.in_ok-upper.upper lang (c.deref.ensures.value ∙ c.in_ok-rows.ensures) c.in_ok-words.ensures c.in_ok-upper.ensures.language) c.over.ensures
