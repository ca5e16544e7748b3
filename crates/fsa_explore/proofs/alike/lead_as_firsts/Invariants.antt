use Rattle.std.proofs.Common.{ℕ, ◌<◌, length}
use Rattle.fsa_explore.specs.Alike.{LeadsAsFirsts}
use Rattle.fsa_explore.proofs.alike.lead_as_firsts.Given as goal

abbrev pub invariant-loop-state : goal.invariant-loop-state
invariant-loop-state g l = (state : ℕ) → state < l.state → LeadsAsFirsts l.a l.of_places l.firsts state (length l.of_places)
