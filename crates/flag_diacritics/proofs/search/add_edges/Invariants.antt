use Rattle.std.proofs.Common.{take}
use Rattle.std.specs.List.{Contains}
use Rattle.flag_diacritics.specs.Numbers.{Features}
use Rattle.flag_diacritics.specs.Idle.{live_behind}
use Rattle.flag_diacritics.specs.Search.{Shows, AddsEdges}
use Rattle.flag_diacritics.proofs.search.add_edges.Given as goal

abbrev pub invariant-loop-edge : goal.invariant-loop-edge
invariant-loop-edge l =
    (now : Features) → Shows l.initial.found.features l.place now → AddsEdges (live_behind l.actions l.idle) l.number now (Contains (take l.edge-index l.edges)) (record { places = l.initial.found.places; features = l.initial.found.features }) l.initial.found.edges.items (record { places = l.found.places; features = l.found.features }) l.found.edges.items
