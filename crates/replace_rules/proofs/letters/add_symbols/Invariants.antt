use Rattle.std.proofs.Common.{◌≡◌, ◌++◌, take}
use Rattle.std.specs.List.{flat_map}
use Rattle.replace_rules.specs.Letters.{marks_with}
use Rattle.replace_rules.proofs.letters.add_symbols.Given as goal

abbrev pub invariant-loop-symbol : goal.invariant-loop-symbol
invariant-loop-symbol l = l.marks.items ≡ l.initial.marks.items ++ flat_map marks_with (take l.symbol-index l.symbols)
