use Rattle.std.proofs.Common.{◌≡◌, ◌≤◌, ◌-◌}
use Rattle.lookup.specs.Walks.{AreMore}
use Rattle.lookup.proofs.Moves.{AreBelow}
use Rattle.lookup.proofs.walk.moves_from.Given as goal

abbrev pub invariant-bytes : goal.invariant-bytes
invariant-bytes l = record {
  bound : l.marked.bound ≡ l.fn.marked.bound;
  more : AreMore l.fn.sets l.sets;
  floor_within : l.floor ≤ 256;
  moves : AreBelow l.rows l.sets l.front l.floor l.moves.items;
}

abbrev pub decreases-bytes : goal.decreases-bytes
decreases-bytes l = 256 - l.floor
