use Rattle.std.proofs.Common.{sym, ◌∙◌}
use Rattle.morph_c.specs.Asking.{IsGlossed, IsNoLook}
use Rattle.morph_c.proofs.Telling.{tells_by}
use Rattle.morph_c.proofs.asking.morph_gloss.Goals as goal

pub returns-clause-told : goal.returns-clause-told
returns-clause-told c =
    tells_by _ _ _ _ (λ h. IsGlossed h c.args.net.now c.args.text.now) (λ h. IsNoLook h c.args.net.now c.args.text.now) _ _ c.taken-held.ensures.taken c.glossed-answer.result
    c.glossed-answer.ensures.reply c.glossed-answer.ensures.trouble c.tell.ensures.told c.tell.ensures.reply c.tell.ensures.trouble c.tell.ensures.place c.tell.ensures.kept

pub returns-clause-kept : goal.returns-clause-kept
returns-clause-kept c = c.put_back.ensures ∙ sym c.taken-held.ensures.taken
