use Rattle.fsa_minimal.proofs.Apart.{split_apart}
use Rattle.fsa_minimal.proofs.refining.split_by.Goals as goal

pub returns-clause-apart : goal.returns-clause-apart
returns-clause-apart g c =
    split_apart c.args.a.now c.mark_all.new.marked.found c.args.partition.now.class_of.items c.split.new.self.class_of.items
    c.requires.apart (c.in_ok-mark_all.ensures.apart c.requires.states) c.in_ok-split.ensures.split
