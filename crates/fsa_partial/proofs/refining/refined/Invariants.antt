use Rattle.std.proofs.Common.{◌≡◌, length}
use Rattle.fsa_partial.specs.Minimal.{IsDeterministic}
use Rattle.fsa_partial.specs.Splitting.{AreLive, ClassesAreApart}
use Rattle.fsa_partial.proofs.refining.refined.Given as goal

abbrev pub invariant-loop-pass : goal.invariant-loop-pass
invariant-loop-pass g l = record {
  count : length l.classes.items ≡ length l.m.finals;
  apart : IsDeterministic l.m → AreLive l.m → ClassesAreApart l.m l.classes.items;
}
