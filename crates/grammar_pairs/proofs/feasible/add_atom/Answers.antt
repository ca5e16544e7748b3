use Rattle.std.proofs.Common.{◌∷◌, []}
use Rattle.grammar_pairs.specs.Feasible.{of_atom}
use Rattle.grammar_pairs.proofs.Found.{pair_eq, same_pair}
use Rattle.grammar_pairs.proofs.Growing.{inserted, more_alike, one_more}
use Rattle.grammar_pairs.proofs.feasible.add_atom.Goals as goal

pub returns-in_ok-insert : goal.returns-in_ok-insert
returns-in_ok-insert c =
    let old = c.args.pairs.now.keys in
    let new = c.insert.new.self.keys in
    more_alike old new (c.in-Some.pair ∷ []) (of_atom c.args.atom.now) c.in-Some.ensures (one_more old new c.in-Some.pair (λ s. rw c.in_ok-insert.ensures.keys (inserted pair_eq same_pair old c.in-Some.pair s)))
