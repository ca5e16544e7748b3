use Rattle.std.proofs.Common.{sym, ◌∙◌}
use Rattle.morph_c.specs.Filling.{IsNotShared, IsSameOpen}
use Rattle.morph_c.proofs.Becoming.{becomes_by}
use Rattle.morph_c.proofs.filling.morph_share.Goals as goal

pub returns-clause-shared : goal.returns-clause-shared
returns-clause-shared c =
    becomes_by IsSameOpen IsNotShared _ _ c.taken-held.ensures.taken _ _ c.taken-before.ensures.taken _ _ c.shared-next.result c.boxed-next.result
    c.shared-next.ensures.next c.shared-next.ensures.trouble c.boxed-next.ensures.next c.boxed-next.ensures.trouble
    c.become_next.ensures.became c.become_next.ensures.number c.become_next.ensures.kept c.become_next.ensures.trouble

pub returns-clause-kept : goal.returns-clause-kept
returns-clause-kept c = c.put_back.ensures ∙ sym c.taken-held.ensures.taken
