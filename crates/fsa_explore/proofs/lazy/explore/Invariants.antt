use Rattle.std.proofs.Common.{◌≡◌, ◌-◌, ◌^◌, length}
use Rattle.fsa_explore.proofs.Exploring.{IsExploring}
use Rattle.fsa_explore.proofs.lazy.explore.Given as goal

abbrev pub invariant-loop-alloc : goal.invariant-loop-alloc
invariant-loop-alloc g l = (l.automaton ≡ l.initial.automaton) × IsExploring (g.A.LazyAutomaton.is_state l.initial.automaton) (g.A.LazyAutomaton.leads l.initial.automaton) (g.A.LazyAutomaton.is_final_state l.initial.automaton) (g.A.LazyAutomaton.letters l.initial.automaton) l.start l.found l.finals.items

abbrev pub decreases-loop-alloc : goal.decreases-loop-alloc
decreases-loop-alloc g l = 2 ^ 64 - length l.finals.items
