use Rattle.std.proofs.Common.{◌≡◌, length}
use Rattle.fsm_base.specs.Lone.{AreLone}
use Rattle.fsm_base.proofs.lone.lone_symbols.Given as goal

abbrev pub invariant-loop-entry : goal.invariant-loop-entry
invariant-loop-entry l = record {
  count : length l.lone.items ≡ 256;
  lone : AreLone l.entries l.lone.items;
}
