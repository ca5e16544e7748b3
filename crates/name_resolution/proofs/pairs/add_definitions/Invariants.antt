use Rattle.std.proofs.Common.{◌≡◌, ◌++◌, drop, map}
use Rattle.std.specs.List.{flat_map}
use Rattle.name_resolution.proofs.pairs.add_definitions.Given as goal
use Rattle.name_resolution.specs.Leaves.{pairs_behind, pairs_in_definition}
use Rattle.grammar_pairs.specs.Plain.{definition_of}

-- what was found, and what is in the other items
abbrev pub invariant-definitions : goal.invariant-definitions
invariant-definitions g l = pairs_behind l.found.items ++ flat_map pairs_in_definition (map definition_of (drop l.definition-index l.definitions)) ≡ pairs_behind l.fn.found.items ++ flat_map pairs_in_definition (map definition_of l.definitions)
