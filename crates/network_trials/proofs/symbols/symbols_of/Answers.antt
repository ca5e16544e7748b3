use Rattle.std.proofs.Common.{arith}
use Rattle.network_trials.proofs.Lists.{numbered_distinct, numbered_below}
use Rattle.network_trials.proofs.symbols.symbols_of.Goals as goal

pub of-requires-clause-distinct : goal.of-requires-clause-distinct
of-requires-clause-distinct c = rw c.deref.ensures.value (numbered_distinct c.in_ok-symbols.symbols.items c.in_ok-symbols.ensures.numbers)

pub of-requires-clause-held : goal.of-requires-clause-held
of-requires-clause-held c =
    rw c.deref.ensures.value (numbered_below c.in_ok-symbols.symbols.items _ c.in_ok-symbols.ensures.numbers (omega (arith, c.in_ok-symbols.ensures.count, c.count_of.ensures)))
