use Rattle.std.proofs.Common.{◌≡◌, length, take}
use Rattle.fsm_base.specs.Lone.{MarksLonger}
use Rattle.fsm_base.specs.Sorted.{texts_in}
use Rattle.fsm_base.proofs.lone.first_bytes_of_longer.Given as goal

abbrev pub invariant-loop-entry : goal.invariant-loop-entry
invariant-loop-entry l = record {
  count : length l.longer.items ≡ 256;
  marked : MarksLonger (texts_in (take l.entry-index l.entries)) l.longer.items;
}
