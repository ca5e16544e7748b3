use Rattle.std.proofs.Common.{◌%◌, length}
use Rattle.std.proofs.lemmas.Nat.{mod_below}
use Rattle.std.proofs.lemmas.List.Elements.{Contains-get_or}
use Rattle.automata_bench.proofs.Chains.{grown_inside, grown_letters}
use Rattle.automata_bench.proofs.chain.Goals as goal

pub edges-preserved : goal.edges-preserved
edges-preserved g = record {
  inside = grown_inside _ _ _ _ _ g.in_ok-to.ensures.ok g.in_ok-add_edge.ensures.ok g.in_ok-to.ensures.number;
  letters = grown_letters _ _ _ _ _ _ _ g.in_ok-to.ensures.ok g.in_ok-add_edge.ensures.ok (Contains-get_or g.args.letters.now (g.edges.k % length g.args.letters.now) _ (mod_below g.edges.k (length g.args.letters.now) g.requires)) g.edges.invariant.letters;
}
