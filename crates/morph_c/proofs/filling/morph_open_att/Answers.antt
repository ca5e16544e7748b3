use Rattle.morph_c.specs.Filling.{IsSavedNotOpened, IsSavedOpenedFrom}
use Rattle.morph_c.proofs.Becoming.{becomes_by}
use Rattle.morph_c.proofs.filling.morph_open_att.Goals as goal

pub returns : goal.returns
returns c =
    becomes_by (λ h. IsSavedOpenedFrom h c.args.name.now) (λ h. IsSavedNotOpened h c.args.name.now) _ _ c.taken-held.ensures.taken _ _ c.taken-held.ensures.taken _ _ c.saved_from-next.result c.boxed-next.result
    c.saved_from-next.ensures.next c.saved_from-next.ensures.trouble c.boxed-next.ensures.next c.boxed-next.ensures.trouble
    c.become_next.ensures.became c.become_next.ensures.number c.become_next.ensures.kept c.become_next.ensures.trouble
