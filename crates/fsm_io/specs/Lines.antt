-- The lines of bytes (POSIX.1-2017, Base Definitions, 3.195 incomplete line and 3.206 line), and lines
-- as they are told: one of more than 4,096 bytes only as being long.
use Rattle.std.specs.Prelude.{◌≢◌, ℕ, Bool, true, false, List, [], ◌∷◌, map, length, Option, None, Some, nat_le, ◌==◌, if◌then◌else◌, All}

-- b at the front of the first of the lines; where there is none, a line that the end alone settles
abbrev pub onto : Bool → ℕ → List (List ℕ) → List (List ℕ)
onto ended b (line ∷ lines) = (b ∷ line) ∷ lines
onto true b [] = (b ∷ []) ∷ []
onto false b [] = []

-- the lines of these bytes, each without its newline: up to each newline, and where the bytes have
-- ended a last one without newline too
abbrev pub raw_lines : Bool → List ℕ → List (List ℕ)
raw_lines ended [] = []
raw_lines ended (b ∷ bytes) = if b == 10 then [] ∷ raw_lines ended bytes else onto ended b (raw_lines ended bytes)

-- the most bytes of a line that is told by itself
abbrev pub most_line : ℕ
most_line = 4096

-- the line, or that it is long
abbrev pub told : List ℕ → Option (List ℕ)
told line = if nat_le (length line) most_line then Some line else None

-- the lines of these bytes as they are told
abbrev pub lines_of : Bool → List ℕ → List (Option (List ℕ))
lines_of ended bytes = map told (raw_lines ended bytes)

-- no newline is among the bytes
abbrev pub IsWithinLine : List ℕ → Type 0
IsWithinLine bytes = All (λ b. b ≢ 10) bytes
