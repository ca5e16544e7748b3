use Rattle.std.proofs.Common.{◌+◌}
use Rattle.fsa_rational.specs.Shapes.{Extends, epsilon}
use Rattle.fsa_rational.proofs.Extended.{ForFinal}
use Rattle.fsa_rational.proofs.extend.leave_finals.Given as goal

abbrev pub invariant-loop-state : goal.invariant-loop-state
invariant-loop-state g l = Extends l.initial.m l.m (ForFinal (λ q. epsilon (q + l.by) l.to) l.finals l.state)
