-- The limits of a project.
use Rattle.std.specs.Prelude.{ℕ}

-- the most bytes of a file
unfoldable pub most_bytes : ℕ
most_bytes = 1048576

-- the most names
unfoldable pub most_names : ℕ
most_names = 512

-- the most symbols of the alphabet
unfoldable pub most_symbols : ℕ
most_symbols = 1024

-- the most symbols that a table holds before those of a project: with these their numbers stay below 2 ^ 24
abbrev pub most_before : ℕ
most_before = 16776192
