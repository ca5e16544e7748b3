use Rattle.std.proofs.Common.{◌≡◌, drop, map}
use Rattle.std.specs.List.{flat_map}
use Rattle.grammar_pairs.specs.Plain.{pair_of}
use Rattle.grammar_weights.specs.Counting.{all_added, kept}
use Rattle.grammar_weights.specs.Weights.{written_pair}
use Rattle.grammar_weights.proofs.counting.add_pairs.Given as goal

-- the other atoms are left
abbrev pub invariant-atoms : goal.invariant-atoms
invariant-atoms l =
    all_added l.pairs.keys (map kept (flat_map written_pair (map pair_of (drop l.atom-index l.atoms)))) ≡ all_added l.fn.pairs.keys (map kept (flat_map written_pair (map pair_of l.atoms)))
