use Rattle.std.proofs.Common.{Bool, ap, ◌∙◌}
use Rattle.indexmap.specs.IndexSet.{insert_key}
use Rattle.grammar_weights.specs.Counting.{all_added}
use Rattle.grammar_weights.specs.declared.counting.Written.{Written}
use Rattle.grammar_weights.proofs.Counted.{pair_eq}
use Rattle.grammar_weights.proofs.counting.add_pair.Goals as goal

pub returns-in_ok-insert : goal.returns-in_ok-insert
returns-in_ok-insert c = c.in_ok-insert.ensures.keys ∙ ap (λ (eq : Written → Written → Bool). insert_key eq c.args.pairs.now.keys c.in-Some.pair) pair_eq ∙ ap (all_added c.args.pairs.now.keys) c.in-Some.ensures
