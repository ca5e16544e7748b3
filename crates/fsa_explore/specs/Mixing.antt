-- The number by which a list is hashed.
use Rattle.std.specs.Prelude.{ℕ, List, ◌+◌, ◌*◌, ◌%◌, ◌^◌, fold}

abbrev pub mix : ℕ → ℕ → ℕ
mix seed number = ((0x9e3779b97f4a7c15 * seed) % 2 ^ 64 + number) % 2 ^ 64

abbrev pub mixed : List ℕ → ℕ
mixed list = fold mix 1 list
