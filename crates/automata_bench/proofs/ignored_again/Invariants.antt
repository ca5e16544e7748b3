use Rattle.std.proofs.Common.{◌≡◌}
use Rattle.automata_bench.proofs.ignored_again.Given as goal

abbrev pub invariant-times : goal.invariant-times
invariant-times l = l.all.letters ≡ l.letters
