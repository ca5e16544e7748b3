-- The number by which a place is hashed.
use Rattle.std.specs.Prelude.{ℕ, ◌+◌, ◌*◌, ◌%◌, ◌^◌}
use Rattle.flag_diacritics.specs.declared.tables.Place.{Place}

abbrev pub mix : ℕ → ℕ → ℕ
mix seed number = ((0x9e3779b97f4a7c15 * seed) % 2 ^ 64 + number) % 2 ^ 64

abbrev pub mark_of : Place → ℕ
mark_of place = mix (mix place.upper place.lower) place.state
