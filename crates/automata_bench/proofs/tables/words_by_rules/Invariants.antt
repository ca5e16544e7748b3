use Rattle.std.proofs.Common.{◌≡◌}
use Rattle.automata_bench.proofs.tables.words_by_rules.Given as goal

abbrev pub invariant-rules : goal.invariant-rules
invariant-rules l = l.all.letters ≡ l.letters
