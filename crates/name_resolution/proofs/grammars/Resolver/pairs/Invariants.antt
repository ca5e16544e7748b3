use Rattle.std.proofs.Common.{◌≡◌, map, take}
use Rattle.name_resolution.proofs.grammars.Resolver.pairs.Given as goal
use Rattle.grammar_pairs.specs.Mapped.{mapped_pair}
use Rattle.grammar_pairs.specs.Plain.{pair_of}
use Rattle.name_resolution.specs.Resolved.{letter_of}

-- those so far
abbrev pub invariant-pairs : goal.invariant-pairs
invariant-pairs l = map pair_of l.found.items ≡ map (λ x. mapped_pair (letter_of l.self.names.now l.self.table.now) (pair_of x)) (take l.pair-index l.pairs)
