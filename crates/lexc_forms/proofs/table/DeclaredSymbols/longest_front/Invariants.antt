use Rattle.std.proofs.Common.{◌≤◌, length}
use Rattle.lexc_forms.proofs.Symbols.{NoneLonger}
use Rattle.lexc_forms.proofs.table.DeclaredSymbols.longest_front.Given as goal

-- no longer front is a symbol
abbrev pub invariant-lengths : goal.invariant-lengths
invariant-lengths l = record {
  fits : l.length ≤ length l.text;
  none_longer : NoneLonger l.self l.text l.length;
}

abbrev pub decreases-lengths : goal.decreases-lengths
decreases-lengths l = l.length
