use Rattle.std.proofs.Common.{Bool, subst, ◌∙◌}
use Rattle.grammar_pairs.specs.Plain.{grammar_of}
use Rattle.std.specs.List.{IsDistinct}
use Rattle.grammar_weights.specs.declared.counting.Written.{Written}
use Rattle.grammar_weights.proofs.Counted.{counted, pair_eq}
use Rattle.grammar_weights.proofs.counting.count_pairs.Goals as goal

pub returns : goal.returns
returns c =
    c.len.ensures.len
    ∙ counted (grammar_of c.args.grammar.now) c.new-pairs.result.keys c.add_pairs.new.pairs.keys c.add_each.new.pairs.keys c.new-pairs.ensures.len (rw c.deref.ensures.value at c.in_ok-add_pairs.ensures)
    (rw c.in_ok-pairs_below.ensures at (rw c.deref-2.ensures.value at c.in_ok-add_each.ensures)) (subst (λ (eq : Written → Written → Bool). IsDistinct eq c.add_each.new.pairs.keys) pair_eq c.len.ensures.unique)
