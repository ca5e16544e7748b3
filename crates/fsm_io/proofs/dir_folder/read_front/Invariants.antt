use Rattle.std.proofs.Common.{◌-◌, ◌≤◌, length}
use Rattle.std.specs.Io.KnownBytes.{Consumes}
use Rattle.fsm_io.proofs.dir_folder.read_front.Given as goal

abbrev pub invariant-chunks : goal.invariant-chunks
invariant-chunks g l = record {
  bound : length l.bytes.items ≤ l.most;
  front : Consumes (g.F.Read.remaining l.fn.file) (g.F.Read.remaining l.file) l.bytes.items;
}

abbrev pub decreases-chunks : goal.decreases-chunks
decreases-chunks g l = l.most - length l.bytes.items
