use Rattle.std.proofs.Common.{◌∙◌}
use Rattle.std.proofs.lemmas.Result.{IfOk-weaker}
use Rattle.replace_rules.proofs.Sets.{over_words, own_letter}
use Rattle.replace_rules.proofs.langs.over.Goals as goal

pub of-requires-clause-all : goal.of-requires-clause-all
of-requires-clause-all c x used =
    let rows = c.deref.ensures.value ∙ c.in_ok-rows.ensures in
    let r = c.in_ok-kept.ensures.letters x used in
    own_letter c.args.marks.now r.0 x (rw rows at r.1)

pub returns : goal.returns
returns c =
    let rows = c.deref.ensures.value ∙ c.in_ok-rows.ensures in
    IfOk-weaker _ _ _ (λ lang. over_words c.args.marks.now c.args.a.now c.in_ok-kept.kept lang (rw rows at c.in_ok-kept.ensures.language)) c.of.ensures
