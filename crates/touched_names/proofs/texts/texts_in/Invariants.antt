use Rattle.std.proofs.Common.{◌≡◌, take}
use Rattle.fsm_base.specs.Alphabet.{texts_of}
use Rattle.touched_names.proofs.texts.texts_in.Given as goal

-- the texts of the symbols so far
abbrev pub invariant-symbols : goal.invariant-symbols
invariant-symbols l = l.texts.items ≡ take l.symbol-index (texts_of l.alphabet)
