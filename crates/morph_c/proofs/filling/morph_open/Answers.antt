use Rattle.morph_c.specs.Filling.{IsNotOpened, IsOpenedFrom}
use Rattle.morph_c.proofs.Becoming.{becomes_by}
use Rattle.morph_c.proofs.filling.morph_open.Goals as goal

pub returns : goal.returns
returns c =
    becomes_by IsOpenedFrom IsNotOpened _ _ c.taken-held.ensures.taken _ _ c.taken-held.ensures.taken _ _ c.opened_from-next.result c.boxed-next.result
    c.opened_from-next.ensures.next c.opened_from-next.ensures.trouble c.boxed-next.ensures.next c.boxed-next.ensures.trouble
    c.become_next.ensures.became c.become_next.ensures.number c.become_next.ensures.kept c.become_next.ensures.trouble
