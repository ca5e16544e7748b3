use Rattle.std.proofs.Common.{sym, ap, length, ◌∙◌}
use Rattle.std.proofs.lemmas.List.{length-map}
use Rattle.std.specs.String.{string_bytes}
use Rattle.fsm_base.proofs.TableLemmas.{number_of-new}
use Rattle.fsm_base.proofs.texts.TextTable.number_of.Goals as goal

pub returns-in-None-clause-number : goal.returns-in-None-clause-number
returns-in-None-clause-number c =
    c.len.ensures.len ∙ sym (length-map c.self.inside.texts.keys string_bytes) ∙ ap length c.self.view_is ∙ sym (number_of-new c.args.text.now c.args.self.now c.in-None.ensures)
