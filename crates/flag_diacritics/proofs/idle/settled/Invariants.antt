use Rattle.std.proofs.Common.{◌≡◌, ◌<◌, ℕ}
use Rattle.std.specs.Prelude.{slice_index_or}
use Rattle.std.specs.Int.{bit_at}
use Rattle.flag_diacritics.specs.declared.setting.Setting.TheVariants.{Neutral}
use Rattle.flag_diacritics.proofs.idle.settled.Given as goal

abbrev pub invariant-features : goal.invariant-features
invariant-features l = (f : ℕ) → f < l.feature → f < 64 → bit_at l.bits f ≡ 0 → slice_index_or l.now f Neutral ≡ Neutral
