use Rattle.std.proofs.Common.{◌≡◌, length, take}
use Rattle.fsa_partial.specs.Splitting.{IsSplit}
use Rattle.fsa_partial.proofs.refining.split.Given as goal

abbrev pub invariant-loop-arcs : goal.invariant-loop-arcs
invariant-loop-arcs l = record {
  count : length l.classes.items ≡ length l.start;
  split : IsSplit l.targets (take l.arcs-index l.groups) l.start l.classes.items;
}
