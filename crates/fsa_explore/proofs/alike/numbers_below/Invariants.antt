use Rattle.fsa_explore.specs.Alike.{IsCounting}
use Rattle.fsa_explore.proofs.alike.numbers_below.Given as goal

abbrev pub invariant-loop-number : goal.invariant-loop-number
invariant-loop-number l = IsCounting l.number l.numbers.items
