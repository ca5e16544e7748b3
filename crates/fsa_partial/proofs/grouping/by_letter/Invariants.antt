use Rattle.std.proofs.Common.{take}
use Rattle.std.specs.BTreeMap.{get}
use Rattle.fsa_partial.specs.Groups.{IsGrouping}
use Rattle.fsa_partial.proofs.grouping.by_letter.Given as goal

abbrev pub invariant-loop-edge : goal.invariant-loop-edge
invariant-loop-edge g l = IsGrouping (take l.edge-index l.edges) (get g.L.Ord.cmp l.places) l.groups.items
