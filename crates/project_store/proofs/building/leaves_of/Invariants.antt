use Rattle.std.proofs.Common.{◌≡◌, ◌++◌, drop}
use Rattle.std.specs.List.{flat_map}
use Rattle.expr_leaves.specs.Leaves.{leaves_in, seen}
use Rattle.network_centres.specs.Centres.{terms_seen}
use Rattle.project_store.proofs.building.leaves_of.Given as goal

-- what was found, and what is in the other expressions
abbrev pub invariant-expressions : goal.invariant-expressions
invariant-expressions l = seen l.found.items ++ flat_map leaves_in (terms_seen (drop l.expr-index l.expr-items)) ≡ flat_map leaves_in (terms_seen l.expr-items)
