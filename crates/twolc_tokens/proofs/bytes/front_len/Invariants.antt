use Rattle.std.proofs.Common.{◌≡◌, ℕ, ◌<◌, ◌≤◌, ◌-◌, true, length, slice_index}
use Rattle.twolc_tokens.specs.Reading.{is_of}
use Rattle.twolc_tokens.proofs.bytes.front_len.Given as goal

abbrev pub invariant-front : goal.invariant-front
invariant-front l = (l.len ≤ length l.bytes) × ((k : ℕ) → k < l.len → is_of l.class (slice_index l.bytes k) ≡ true)

abbrev pub decreases-front : goal.decreases-front
decreases-front l = length l.initial.bytes - l.len
