use Rattle.std.proofs.Common.{◌≤◌, ℕ, List, Contains}
use Rattle.fsm_base.specs.Longest.{BeginsWith}
use Rattle.interlinear.specs.Glosses.{keys_in}
use Rattle.std.proofs.Common.{length}
use Rattle.interlinear.proofs.table.GlossTable.longest_front.Given as goal

-- no longer key begins the text
abbrev pub invariant-lengths : goal.invariant-lengths
invariant-lengths l = record {
  fits : l.length ≤ length l.text;
  none_longer : (key : List ℕ) → Contains (keys_in l.self) key → BeginsWith l.text key → length key ≤ l.length;
}

abbrev pub decreases-lengths : goal.decreases-lengths
decreases-lengths l = l.length
