use Rattle.std.proofs.Common.{◌≡◌, length, take}
use Rattle.std.specs.List.{Contains}
use Rattle.fsa_rational.specs.Bypass.{IsBypassed}
use Rattle.fsa_rational.proofs.lettered.bypass.Given as goal

abbrev pub invariant-loop-state : goal.invariant-loop-state
invariant-loop-state g l = (l.reached.bound ≡ length l.a.finals) × IsBypassed l.rows l.a.finals (Contains (take l.state-index l.states)) l.m
