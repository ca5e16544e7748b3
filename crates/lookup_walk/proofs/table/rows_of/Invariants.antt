use Rattle.std.proofs.Common.{◌≡◌, length}
use Rattle.lookup_walk.specs.Sorted.{AreRows}
use Rattle.lookup_walk.proofs.table.rows_of.Given as goal

abbrev pub invariant-states : goal.invariant-states
invariant-states l = record { count : length l.rows.items ≡ l.state; rows : AreRows l.moves l.rows.items }
