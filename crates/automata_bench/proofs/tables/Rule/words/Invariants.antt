use Rattle.std.proofs.Common.{◌≡◌, ◌*◌, ◌<◌, All, length}
use Rattle.automata_bench.specs.declared.tables.TheConstants.{STATES}
use Rattle.automata_bench.proofs.tables.Rule.words.Given as goal

abbrev pub invariant-states : goal.invariant-states
invariant-states l = record {
  count : length l.next.items ≡ l.state * length l.letters;
  within : All (λ to. to < STATES) l.next.items;
}
