use Rattle.std.proofs.Common.{sym, ◌∙◌}
use Rattle.morph_c.specs.Asking.{AreListed, IsWhyNone}
use Rattle.morph_c.proofs.Telling.{tells_by}
use Rattle.morph_c.proofs.asking.morph_names.Goals as goal

pub returns-clause-told : goal.returns-clause-told
returns-clause-told c =
    tells_by _ _ _ _ AreListed IsWhyNone _ _ c.taken-held.ensures.taken c.names_in-answer.result
    c.names_in-answer.ensures.reply c.names_in-answer.ensures.trouble c.tell.ensures.told c.tell.ensures.reply c.tell.ensures.trouble c.tell.ensures.place c.tell.ensures.kept

pub returns-clause-kept : goal.returns-clause-kept
returns-clause-kept c = c.put_back.ensures ∙ sym c.taken-held.ensures.taken
