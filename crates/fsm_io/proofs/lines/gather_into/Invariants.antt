use Rattle.std.proofs.Common.{◌≡◌, ◌≤◌, length}
use Rattle.fsm_io.specs.Buffers.{most_ahead}
use Rattle.fsm_io.proofs.Taking.{GatheringInto}
use Rattle.fsm_io.proofs.lines.gather_into.Given as goal

abbrev pub invariant-reads : goal.invariant-reads
invariant-reads g l = record {
  taking : GatheringInto (g.S.Source.left l.fn.source) (g.S.Source.left l.source) l.fn.budget l.budget l.fn.line l.line l.fn.held l.held l.keep l.fn.into.items l.into.items l.lacks;
  spent : l.fn.budget ≡ 0 → (l.budget ≡ 0) × (l.source ≡ l.fn.source);
  few : length l.held ≤ most_ahead;
  later : g.S.Source.faults l.fn.source ≤ g.S.Source.faults l.source;
}

abbrev pub decreases-reads : goal.decreases-reads
decreases-reads g l = l.budget
