use Rattle.network_trials.proofs.Lists.{joined_only, none_used}
use Rattle.network_trials.proofs.replace_parts.row_of.Goals as goal

pub atoms-init : goal.atoms-init
atoms-init c = none_used c.args.letters.now c.in_ok-row.row c.in_ok-row.ensures.letters

pub atoms-preserved : goal.atoms-preserved
atoms-preserved c = joined_only c.args.letters.now c.atoms.row c.in_ok-more.more c.in_ok-row-2.row c.in_ok-row-2.ensures.letters c.atoms.invariant c.in_ok-more.ensures
