use Rattle.std.proofs.Common.{length, ◌-◌}
use Rattle.fsm_base.proofs.AlphabetLemmas.{IsCutTo}
use Rattle.fsm_base.proofs.alphabet.Alphabet.tokens.Given as goal

abbrev pub invariant-symbols : goal.invariant-symbols
invariant-symbols l = IsCutTo l.self l.bytes l.word.items l.from

abbrev pub decreases-symbols : goal.decreases-symbols
decreases-symbols l = length l.bytes - l.from
