use Rattle.std.proofs.Common.{take}
use Rattle.network_build.specs.Gathered.{AddsLeaves}
use Rattle.network_build.proofs.Gathering.{lexicons_leaves}
use Rattle.network_build.proofs.leaf_symbols.add_lexicons.Given as goal

-- the symbols so far
abbrev pub invariant-lexicons : goal.invariant-lexicons
invariant-lexicons l = AddsLeaves l.fn.symbols l.symbols (lexicons_leaves (take l.lexicon-index l.lexicons))
