use Rattle.std.proofs.Common.{◌∙◌}
use Rattle.fsa_minimal.proofs.Apart.{split_apart, one_apart}
use Rattle.fsa_minimal.proofs.refining.split_by_finals.Goals as goal

pub returns-clause-apart : goal.returns-clause-apart
returns-clause-apart g c =
    let old = c.in_ok-partition.partition.class_of.items in
    split_apart c.args.a.now c.in_ok-marked.marked.found old c.split.new.self.class_of.items
    (one_apart c.args.a.now old (c.in_ok-partition.ensures.count ∙ c.states.ensures.number) c.in_ok-partition.ensures.one) c.in_ok-marked.ensures.apart c.in_ok-split.ensures.split
