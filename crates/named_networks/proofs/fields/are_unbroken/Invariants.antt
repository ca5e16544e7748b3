use Rattle.named_networks.specs.Fields.{HasNoBreak}
use Rattle.named_networks.proofs.Written.{AllBefore}
use Rattle.named_networks.proofs.fields.are_unbroken.Given as goal

-- none of the texts so far has a break
abbrev pub invariant-symbols : goal.invariant-symbols
invariant-symbols l = AllBefore HasNoBreak l.alphabet l.symbol-index
