use Rattle.std.proofs.Common.{◌≡◌, length}
use Rattle.saved_networks.proofs.Numbered.{AreNumbered}
use Rattle.saved_networks.proofs.network.symbols_below.Given as goal

abbrev pub invariant-numbers : goal.invariant-numbers
invariant-numbers l = record {
  numbered : AreNumbered l.symbols.items;
  count : length l.symbols.items ≡ l.number;
}
