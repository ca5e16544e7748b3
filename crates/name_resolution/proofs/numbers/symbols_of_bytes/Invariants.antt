use Rattle.std.proofs.Common.{◌≡◌, length}
use Rattle.name_resolution.specs.Bytes.{AreOfBytes}
use Rattle.name_resolution.proofs.numbers.symbols_of_bytes.Given as goal

abbrev pub invariant-numbers : goal.invariant-numbers
invariant-numbers l = record {
  count : length l.symbols.items ≡ 256;
  symbols : AreOfBytes l.table l.symbols.items;
}
