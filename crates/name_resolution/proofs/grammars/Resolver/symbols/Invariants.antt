use Rattle.std.proofs.Common.{◌≡◌, map, take}
use Rattle.name_resolution.proofs.grammars.Resolver.symbols.Given as goal
use Rattle.name_resolution.specs.Resolved.{letter_of}

-- the symbols so far
abbrev pub invariant-symbols : goal.invariant-symbols
invariant-symbols l = l.found.items ≡ map (letter_of l.self.names.now l.self.table.now) (take l.symbol-index l.symbols)
