use Rattle.std.proofs.Common.{Some, ap, ◌∙◌}
use Rattle.flag_diacritics.proofs.Finding.{same_place}
use Rattle.flag_diacritics.proofs.tables.PlaceTable.number_of.Goals as goal

pub returns-clause-number : goal.returns-clause-number
returns-clause-number c =
    let stored = c.in_ok-number.ensures.stored in
    stored.1 ∙ ap Some (same_place c.args.place stored.0 stored.2)
