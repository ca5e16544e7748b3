use Rattle.fsa_explore.specs.Alike.{LeadsAsFirsts}
use Rattle.fsa_explore.proofs.alike.leads_as_firsts.Given as goal

abbrev pub invariant-loop-place : goal.invariant-loop-place
invariant-loop-place g l = LeadsAsFirsts l.a l.of_places l.firsts l.state l.place
