-- How many backslashes stand for a row of them: the third one turns back what the second one did.
use Rattle.std.specs.Prelude.{◌≡◌, ◌≤◌, ◌+◌, ℕ}

-- pairs of backslashes are left out, and one or two stay where there were any
pub record IsFewOf (few count : ℕ) : Type 0 where
  pub at_most : few ≤ 2
  pub pairs : ℕ
  pub left_out : count ≡ few + (pairs + pairs)
  pub some : few ≡ 0 → count ≡ 0
