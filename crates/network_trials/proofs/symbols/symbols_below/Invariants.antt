use Rattle.std.proofs.Common.{◌≡◌, length}
use Rattle.network_trials.proofs.Lists.{AreNumbered}
use Rattle.network_trials.proofs.symbols.symbols_below.Given as goal

abbrev pub invariant-numbers : goal.invariant-numbers
invariant-numbers l = record {
  numbered : AreNumbered l.symbols.items;
  count : length l.symbols.items ≡ l.number;
}
