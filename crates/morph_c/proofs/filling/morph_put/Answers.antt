use Rattle.morph_c.specs.Filling.{IsNoPut, IsWithFile}
use Rattle.morph_c.proofs.Becoming.{becomes_by}
use Rattle.morph_c.proofs.filling.morph_put.Goals as goal

pub returns : goal.returns
returns c =
    becomes_by (λ h. IsWithFile h c.args.name.now c.args.content.now) (λ h. IsNoPut h c.args.name.now) _ _ c.taken-held.ensures.taken _ _ c.taken-held.ensures.taken _ _ c.with_file-next.result c.boxed-next.result
    c.with_file-next.ensures.next c.with_file-next.ensures.trouble c.boxed-next.ensures.next c.boxed-next.ensures.trouble
    c.become_next.ensures.became c.become_next.ensures.number c.become_next.ensures.kept c.become_next.ensures.trouble
