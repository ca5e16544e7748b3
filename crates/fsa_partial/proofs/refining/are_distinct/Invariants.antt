use Rattle.std.proofs.Common.{◌≡◌, take}
use Rattle.std.specs.Prelude.{nat_eq}
use Rattle.std.specs.List.{IsDistinct}
use Rattle.fsa_partial.proofs.refining.are_distinct.Given as goal

abbrev pub invariant-loop-number : goal.invariant-loop-number
invariant-loop-number l = record {
  met : l.met.keys ≡ take l.number-index l.numbers;
  once : IsDistinct nat_eq l.met.keys;
}
