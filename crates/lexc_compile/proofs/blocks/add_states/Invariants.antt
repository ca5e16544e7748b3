use Rattle.std.proofs.Common.{◌≡◌, ◌++◌, false, replicate}
use Rattle.lexc_compile.proofs.blocks.add_states.Given as goal

abbrev pub invariant-loop-added : goal.invariant-loop-added
invariant-loop-added l = (l.m.finals ≡ l.initial.m.finals ++ replicate l._added false) × (l.m.edges ≡ l.initial.m.edges)
