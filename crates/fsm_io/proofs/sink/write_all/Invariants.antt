use Rattle.std.proofs.Common.{◌≤◌, length}
use Rattle.fsm_io.specs.Sinks.{Written}
use Rattle.fsm_io.proofs.sink.write_all.Given as goal

abbrev pub invariant-pieces : goal.invariant-pieces
invariant-pieces g l = record {
  written : Written (g.K.Sink.held l.fn.sink) (g.K.Sink.held l.sink) l.fn.bytes l.rest;
  later : g.K.Sink.faults l.fn.sink ≤ g.K.Sink.faults l.sink;
}

abbrev pub decreases-pieces : goal.decreases-pieces
decreases-pieces g l = length l.rest
