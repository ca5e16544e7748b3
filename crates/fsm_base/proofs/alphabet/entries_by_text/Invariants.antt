use Rattle.std.proofs.Common.{◌≡◌, take}
use Rattle.fsm_base.specs.Sorted.{entries_of}
use Rattle.fsm_base.proofs.alphabet.entries_by_text.Given as goal

abbrev pub invariant-symbols : goal.invariant-symbols
invariant-symbols l = l.entries.items ≡ entries_of l.table (take l.sym-index l.syms)
