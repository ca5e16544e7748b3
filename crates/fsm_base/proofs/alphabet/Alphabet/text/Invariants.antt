use Rattle.std.proofs.Common.{◌≡◌, take}
use Rattle.std.specs.String.{string_bytes}
use Rattle.word_relations.specs.Words.{joined}
use Rattle.fsm_base.specs.Alphabet.{spelled}
use Rattle.fsm_base.proofs.alphabet.Alphabet.text.Given as goal

abbrev pub invariant-symbols : goal.invariant-symbols
invariant-symbols l = string_bytes l.text ≡ joined (spelled l.self (take l.sym-index l.word))
