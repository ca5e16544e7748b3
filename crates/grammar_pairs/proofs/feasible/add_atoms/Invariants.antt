use Rattle.std.proofs.Common.{take}
use Rattle.std.specs.List.{flat_map}
use Rattle.grammar_pairs.specs.Feasible.{of_atom}
use Rattle.grammar_pairs.proofs.Growing.{HasMore}
use Rattle.grammar_pairs.proofs.feasible.add_atoms.Given as goal

-- the pairs so far
abbrev pub invariant-atoms : goal.invariant-atoms
invariant-atoms l = HasMore l.fn.pairs.keys l.pairs.keys (flat_map of_atom (take l.atom-index l.atoms))
