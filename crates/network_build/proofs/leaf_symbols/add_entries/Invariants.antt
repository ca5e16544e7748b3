use Rattle.std.proofs.Common.{take}
use Rattle.network_build.specs.Gathered.{AddsLeaves}
use Rattle.network_build.proofs.Gathering.{entries_leaves}
use Rattle.network_build.proofs.leaf_symbols.add_entries.Given as goal

-- the symbols so far
abbrev pub invariant-entries : goal.invariant-entries
invariant-entries l = AddsLeaves l.fn.symbols l.symbols (entries_leaves (take l.entry-index l.entries))
