use Rattle.std.proofs.Common.{take}
use Rattle.fsa_subset.specs.Classes.{IsByClass}
use Rattle.fsa_subset.proofs.classes.rows_by_class.Given as goal

abbrev pub invariant-loop-class : goal.invariant-loop-class
invariant-loop-class l = IsByClass l.edges (take l.class l.firsts) l.kept.items
