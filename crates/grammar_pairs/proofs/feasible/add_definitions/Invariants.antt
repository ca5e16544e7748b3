use Rattle.std.proofs.Common.{take}
use Rattle.std.specs.List.{flat_map}
use Rattle.grammar_pairs.specs.Feasible.{of_definition}
use Rattle.grammar_pairs.proofs.Growing.{HasMore}
use Rattle.grammar_pairs.proofs.feasible.add_definitions.Given as goal

-- the pairs so far
abbrev pub invariant-definitions : goal.invariant-definitions
invariant-definitions l = HasMore l.fn.pairs.keys l.pairs.keys (flat_map of_definition (take l.definition-index l.definitions))
