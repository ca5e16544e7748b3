-- What contracts see of a forge, and an issue.
use Rattle.std.specs.Prelude.{ℕ, List}
use Rattle.parallel_build.specs.declared.issue.Issue.{Issue}

-- how many permits may be made without asking for memory, and the issues, the first one first
pub record Stock : Type 0 where
  pub room : ℕ
  pub issues : List Issue

abbrev pub stock : ℕ → List Issue → Stock
stock room issues = record { room = room; issues = issues }

abbrev pub issue : ℕ → ℕ → Issue
issue name version = record { name = name; version = version }
