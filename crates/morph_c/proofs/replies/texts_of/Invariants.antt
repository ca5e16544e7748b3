use Rattle.std.proofs.Common.{◌≡◌, take}
use Rattle.fsm_base.specs.Alphabet.{spelled}
use Rattle.morph_c.proofs.replies.texts_of.Given as goal

-- the texts of the symbols so far
abbrev pub invariant-symbols : goal.invariant-symbols
invariant-symbols l = l.texts.items ≡ spelled l.alphabet (take l.symbol-index l.symbols)
