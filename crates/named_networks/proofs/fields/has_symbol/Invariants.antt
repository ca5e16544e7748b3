use Rattle.std.proofs.Common.{◌≡◌}
use Rattle.named_networks.proofs.Written.{AllBefore}
use Rattle.named_networks.proofs.fields.has_symbol.Given as goal

-- none of the symbols so far has the text
abbrev pub invariant-symbols : goal.invariant-symbols
invariant-symbols l = AllBefore (λ text. text ≡ l.wanted → ⊥) l.alphabet l.symbol-index
