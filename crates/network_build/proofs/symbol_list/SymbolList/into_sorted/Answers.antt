use Rattle.network_build.proofs.Once.{once_distinct, once_same}
use Rattle.network_build.proofs.symbol_list.SymbolList.into_sorted.Goals as goal

pub returns-clause-distinct : goal.returns-clause-distinct
returns-clause-distinct c = once_distinct c.self.inside.symbols.items c.sort_unstable.new.self.items c.dedup.new.self.items c.sort_unstable.ensures.permutation c.dedup.ensures.filtered c.sort_unstable.ensures.sorted

pub returns-clause-same : goal.returns-clause-same
returns-clause-same c = rw (← c.self.view_is) (once_same c.self.inside.symbols.items c.sort_unstable.new.self.items c.dedup.new.self.items c.sort_unstable.ensures.permutation c.dedup.ensures.filtered)
