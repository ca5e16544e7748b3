use Rattle.fsa_reduce.proofs.MergedFinals.{AreMergedFinals}
use Rattle.fsa_reduce.proofs.merging.merged_finals.Given as goal

abbrev pub invariant-loop-state : goal.invariant-loop-state
invariant-loop-state l = AreMergedFinals l.finals l.classes l.count l.state l.merged.items
