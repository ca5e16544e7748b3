use Rattle.lookup.specs.Answering.{HasSymbolsOf}
use Rattle.network_trials.proofs.lookup_rows.network.Given as goal

abbrev pub invariant-rows : goal.invariant-rows
invariant-rows l = HasSymbolsOf l.symbols.alphabet l.fsa
