use Rattle.std.specs.List.{Contains}
use Rattle.fsm_base.specs.declared.letters.Pair.{Pair}
use Rattle.word_relations.specs.Words.{IsDistinct}
use Rattle.network_trials.specs.Pairs.{IsPairOver}
use Rattle.network_trials.proofs.grammar_symbols.pairs_of.Given as goal

abbrev pub invariant-pairs : goal.invariant-pairs
invariant-pairs l = IsDistinct l.pairs.items × ((x : Pair) → Contains l.pairs.items x → IsPairOver l.symbols.alphabet x)
