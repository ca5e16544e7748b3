use Rattle.replace_rules.proofs.Listing.{distinct_push}
use Rattle.replace_rules.proofs.Told.{once_new, once_there}
use Rattle.replace_rules.proofs.alike.add_once.Goals as goal

pub returns-in-Some-clause-same : goal.returns-in-Some-clause-same
returns-in-Some-clause-same c s = once_there c.args.once.now.items c.args.sym s c.in-Some.field-0 (rw c.deref.ensures.value at c.in-Some.ensures)
