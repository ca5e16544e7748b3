-- The limits of a lexc text.
use Rattle.std.specs.Prelude.{ℕ}

-- the most entries of all lexicons
abbrev pub most_entries : ℕ
most_entries = 100000

-- the most features that its flags are about
abbrev pub most_features : ℕ
most_features = 32
