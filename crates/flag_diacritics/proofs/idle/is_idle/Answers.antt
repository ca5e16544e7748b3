use Rattle.std.proofs.Common.{◌≡◌, false, nat_lt, arith, sym, ◌∙◌}
use Rattle.std.proofs.lemmas.Bool.Decides.{nat_tests}
use Rattle.flag_diacritics.proofs.Rows.{none_past}
use Rattle.flag_diacritics.proofs.idle.is_idle.Goals as goal

pub returns-else-feature-lt-MASKED : goal.returns-else-feature-lt-MASKED
returns-else-feature-lt-MASKED c =
    let past : nat_lt c.args.feature 64 ≡ false = grind (arith, nat_tests) in
    past ∙ sym (none_past c.args.row c.args.feature (omega arith) c.if-feature-lt-MASKED.false)
