use Rattle.std.proofs.Common.{◌≡◌, ◌*◌, ◌<◌, All, length}
use Rattle.automata_bench.proofs.tables.words_of_length.Given as goal

abbrev pub invariant-states : goal.invariant-states
invariant-states l = record {
  count : length l.next.items ≡ l.state * length l.letters.items;
  within : All (λ to. to < length l.finals.items) l.next.items;
}
