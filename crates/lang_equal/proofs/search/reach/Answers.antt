use Rattle.lang_equal.proofs.Pairs.{adds_none}
use Rattle.lang_equal.proofs.search.reach.Goals as goal

pub returns-else-branch : goal.returns-else-branch
returns-else-branch c =
    adds_none c.args.search.now.reached.keys c.insert.new.self.keys c.args.search.now.steps.items c.args.pair c.args.step _ c.in_ok-insert.ensures.keys c.in_ok-insert.ensures.added c.if-branch.false
