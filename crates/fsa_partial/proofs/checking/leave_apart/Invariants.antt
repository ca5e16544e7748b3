use Rattle.std.proofs.Common.{Contains, take, Vec}
use Rattle.std.specs.Global.{Global}
use Rattle.fsa_partial.specs.declared.grouping.Arc.{Arc}
use Rattle.fsa_partial.specs.Groups.{LeaveApart}
use Rattle.fsa_partial.proofs.checking.leave_apart.Given as goal

abbrev pub invariant-loop-arcs : goal.invariant-loop-arcs
invariant-loop-arcs l = (arcs : Vec Arc Global) → Contains (take l.arcs-index l.groups) arcs → LeaveApart arcs.items
