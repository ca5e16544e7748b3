use Rattle.std.proofs.Common.{◌≡◌, map, take}
use Rattle.name_resolution.proofs.grammars.Resolver.sets.Given as goal
use Rattle.grammar_pairs.specs.Mapped.{mapped_set}
use Rattle.grammar_pairs.specs.Plain.{set_of}
use Rattle.name_resolution.specs.Resolved.{letter_of}

-- those so far
abbrev pub invariant-sets : goal.invariant-sets
invariant-sets l = map set_of l.found.items ≡ map (λ x. mapped_set (letter_of l.self.names.now l.self.table.now) (set_of x)) (take l.set-index l.sets)
