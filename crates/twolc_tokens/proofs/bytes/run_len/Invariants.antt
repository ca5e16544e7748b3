use Rattle.std.proofs.Common.{ℕ, ◌≤◌, ◌+◌, ◌-◌, length, drop}
use Rattle.regex_tokens.specs.Reading.{IsPiecesLen}
use Rattle.twolc_tokens.specs.Spelling.{is_run_byte}
use Rattle.twolc_tokens.proofs.bytes.run_len.Given as goal

abbrev pub invariant-pieces : goal.invariant-pieces
invariant-pieces l = (l.len ≤ length l.bytes) × ((m : ℕ) → IsPiecesLen is_run_byte (drop l.len l.bytes) m → IsPiecesLen is_run_byte l.bytes (l.len + m))

abbrev pub decreases-pieces : goal.decreases-pieces
decreases-pieces l = length l.initial.bytes - l.len
