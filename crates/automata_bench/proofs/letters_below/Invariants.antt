use Rattle.std.proofs.Common.{◌≡◌, length}
use Rattle.automata_bench.proofs.Numbered.{AreNumbered}
use Rattle.automata_bench.proofs.letters_below.Given as goal

abbrev pub invariant-numbers : goal.invariant-numbers
invariant-numbers l = record {
  numbered : AreNumbered l.letters.items;
  count : length l.letters.items ≡ l.number;
}
