use Rattle.std.proofs.Common.{◌≡◌, drop}
use Rattle.std.specs.List.{flat_map}
use Rattle.network_centres.specs.Centres.{terms_seen}
use Rattle.project_meaning.specs.Centres.{centres_in}
use Rattle.project_store.proofs.centres.has_centre.Given as goal

-- all centres are in the other expressions
abbrev pub invariant-expressions : goal.invariant-expressions
invariant-expressions l = flat_map (λ e. centres_in e) (terms_seen (drop l.expr-index l.expr-items)) ≡ flat_map (λ e. centres_in e) (terms_seen l.expr-items)
