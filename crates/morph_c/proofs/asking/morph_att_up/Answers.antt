use Rattle.std.proofs.Common.{sym, ◌∙◌}
use Rattle.morph_c.specs.Asking.{IsLookedUpInSaved, IsNoLookInSaved}
use Rattle.morph_c.proofs.Telling.{tells_by}
use Rattle.morph_c.proofs.asking.morph_att_up.Goals as goal

pub returns-clause-told : goal.returns-clause-told
returns-clause-told c =
    tells_by _ _ _ _ (λ h. IsLookedUpInSaved h c.args.word.now) (λ h. IsNoLookInSaved h c.args.word.now) _ _ c.taken-held.ensures.taken c.looked_up_in_saved-answer.result
    c.looked_up_in_saved-answer.ensures.reply c.looked_up_in_saved-answer.ensures.trouble c.tell.ensures.told c.tell.ensures.reply c.tell.ensures.trouble c.tell.ensures.place c.tell.ensures.kept

pub returns-clause-kept : goal.returns-clause-kept
returns-clause-kept c = c.put_back.ensures ∙ sym c.taken-held.ensures.taken
