use Rattle.network_trials.proofs.Lists.{joined_only, none_used}
use Rattle.network_trials.proofs.replace_parts.part_of.Goals as goal

pub words-init : goal.words-init
words-init c = none_used c.args.letters.now c.in_ok-part.part c.in_ok-part.ensures.letters

pub words-preserved : goal.words-preserved
words-preserved c = joined_only c.args.letters.now c.words.part c.in_ok-more.more c.in_ok-part-2.part c.in_ok-part-2.ensures.letters c.words.invariant c.in_ok-more.ensures
