use Rattle.std.proofs.Common.{◌+◌}
use Rattle.fsa_rational.specs.Shapes.{Extends, epsilon}
use Rattle.fsa_rational.proofs.Extended.{ForFinal}
use Rattle.fsa_rational.proofs.extend.enter_finals.Given as goal

abbrev pub invariant-loop-state : goal.invariant-loop-state
invariant-loop-state g l = Extends l.initial.m l.m (ForFinal (λ q. epsilon l.from (q + l.by)) l.finals l.state)
