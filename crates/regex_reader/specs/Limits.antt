-- The limits of names and expressions.
use Rattle.std.specs.Prelude.{ℕ}

-- the most characters of a name
abbrev pub most_characters : ℕ
most_characters = 64

-- the most brackets that are open round a token
abbrev pub most_open : ℕ
most_open = 64

-- the highest number of a power
abbrev pub highest_power : ℕ
highest_power = 255

-- the most mappings of a set of rules, and the most contexts of it or of one `=>`
abbrev pub most_in_rules : ℕ
most_in_rules = 64
