use Rattle.std.proofs.Common.{◌-◌, ◌^◌, length}
use Rattle.flag_diacritics.specs.Idle.{live_behind}
use Rattle.flag_diacritics.proofs.Passing.{all_neutral}
use Rattle.flag_diacritics.proofs.Searching.{IsExploring}
use Rattle.flag_diacritics.proofs.search.explore.Given as goal

abbrev pub invariant-places : goal.invariant-places
invariant-places l = IsExploring (live_behind l.actions.list.items l.idle) l.net (all_neutral l.actions.features) (record { places = l.found.places; features = l.found.features }) l.found.edges.items l.finals.items

abbrev pub decreases-places : goal.decreases-places
decreases-places l = 2 ^ 64 - length l.finals.items
