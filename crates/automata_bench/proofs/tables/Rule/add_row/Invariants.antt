use Rattle.std.proofs.Common.{◌≡◌, ◌+◌, ◌<◌, All, length}
use Rattle.automata_bench.specs.declared.tables.TheConstants.{STATES}
use Rattle.automata_bench.proofs.tables.Rule.add_row.Given as goal

abbrev pub invariant-letters : goal.invariant-letters
invariant-letters l = record {
  count : length l.next.items ≡ length l.initial.next.items + l.letter-index;
  within : All (λ to. to < STATES) l.next.items;
}
