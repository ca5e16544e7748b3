use Rattle.std.proofs.Common.{length}
use Rattle.regex_ast.specs.Terms.{term}
use Rattle.network_centres.specs.Centres.{terms_seen}
use Rattle.network_centres.proofs.Seen.{AreSeen}
use Rattle.network_centres.proofs.empty.has_empty_centre.Given as goal

abbrev pub invariant-centres : goal.invariant-centres
invariant-centres l = AreSeen l.parts l.alphabet (term l.fn.expr) (terms_seen l.unseen.items)

abbrev pub decreases-centres : goal.decreases-centres
decreases-centres l = length l.unseen.items
