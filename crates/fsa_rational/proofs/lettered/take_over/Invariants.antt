use Rattle.std.proofs.Common.{take}
use Rattle.std.specs.List.{Contains}
use Rattle.fsa_rational.specs.Bypass.{TakesOver}
use Rattle.fsa_rational.proofs.lettered.take_over.Given as goal

abbrev pub invariant-loop-source : goal.invariant-loop-source
invariant-loop-source g l = TakesOver l.rows l.a.finals l.state (Contains (take l.source-index l.reached)) l.initial.m l.m
