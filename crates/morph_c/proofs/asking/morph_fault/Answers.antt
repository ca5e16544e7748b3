use Rattle.std.proofs.Common.{sym, ◌∙◌}
use Rattle.morph_c.specs.Asking.{IsFault, IsNoFault}
use Rattle.morph_c.proofs.Telling.{tells_by}
use Rattle.morph_c.proofs.asking.morph_fault.Goals as goal

pub returns-clause-told : goal.returns-clause-told
returns-clause-told c =
    tells_by _ _ _ _ IsFault IsNoFault _ _ c.taken-held.ensures.taken c.fault_in-answer.result
    c.fault_in-answer.ensures.reply c.fault_in-answer.ensures.trouble c.tell.ensures.told c.tell.ensures.reply c.tell.ensures.trouble c.tell.ensures.place c.tell.ensures.kept

pub returns-clause-kept : goal.returns-clause-kept
returns-clause-kept c = c.put_back.ensures ∙ sym c.taken-held.ensures.taken
