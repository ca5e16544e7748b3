use Rattle.std.proofs.Common.{ℕ, ◌≤◌, ◌+◌, ◌-◌, length, drop}
use Rattle.regex_tokens.specs.Reading.{IsPiecesLen, is_of}
use Rattle.regex_tokens.proofs.bytes.pieces_len.Given as goal

abbrev pub invariant-pieces : goal.invariant-pieces
invariant-pieces l = (l.len ≤ length l.bytes) × ((m : ℕ) → IsPiecesLen (is_of l.class) (drop l.len l.bytes) m → IsPiecesLen (is_of l.class) l.bytes (l.len + m))

abbrev pub decreases-pieces : goal.decreases-pieces
decreases-pieces l = length l.initial.bytes - l.len
