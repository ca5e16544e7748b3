use Rattle.std.proofs.Common.{◌≡◌, take, fold}
use Rattle.fsa_explore.specs.Mixing.{mix}
use Rattle.fsa_explore.proofs.table.mixed.Given as goal

abbrev pub invariant-numbers : goal.invariant-numbers
invariant-numbers l = l.seed ≡ fold mix 1 (take l.number-index l.list)
