use Rattle.std.proofs.Common.{◌≡◌, drop, map}
use Rattle.std.specs.List.{flat_map}
use Rattle.name_resolution.specs.Leaves.{pairs_behind}
use Rattle.grammar_weights.specs.Counting.{all_added, kept}
use Rattle.grammar_weights.specs.Weights.{written_pair}
use Rattle.grammar_weights.proofs.counting.add_each.Given as goal

-- the other atoms are left
abbrev pub invariant-atoms : goal.invariant-atoms
invariant-atoms l =
    all_added l.pairs.keys (map kept (flat_map written_pair (pairs_behind (drop l.atom-index l.atoms)))) ≡ all_added l.fn.pairs.keys (map kept (flat_map written_pair (pairs_behind l.atoms)))
