use Rattle.std.proofs.Common.{◌≡◌, take}
use Rattle.fsm_base.proofs.alphabet.texts_by_number.Given as goal

abbrev pub invariant-numbers : goal.invariant-numbers
invariant-numbers l = l.texts.items ≡ take l.number l.table
