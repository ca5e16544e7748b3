use Rattle.flag_diacritics.specs.Idle.{live_behind}
use Rattle.flag_diacritics.specs.Search.{Names}
use Rattle.flag_diacritics.proofs.Searching.{edges_more, edges_all, shows_kept, shown_within}
use Rattle.flag_diacritics.proofs.search.add_edges.Goals as goal

pub add_edge-requires-clause-upper : goal.add_edge-requires-clause-upper
add_edge-requires-clause-upper c =
    (shown_within c.args.found.now.features c.loop-edge.found.features c.args.place c.requires.upper c.requires.lower (λ now shows. (c.loop-edge.invariant now shows).features)).0

pub add_edge-requires-clause-lower : goal.add_edge-requires-clause-lower
add_edge-requires-clause-lower c =
    (shown_within c.args.found.now.features c.loop-edge.found.features c.args.place c.requires.upper c.requires.lower (λ now shows. (c.loop-edge.invariant now shows).features)).1

pub loop-edge-preserved : goal.loop-edge-preserved
loop-edge-preserved c = λ now shows.
    let before = c.loop-edge.invariant now shows in
    let first : Names = record { places = c.args.found.now.places; features = c.args.found.now.features } in
    let old : Names = record { places = c.loop-edge.found.places; features = c.loop-edge.found.features } in
    let new : Names = record { places = c.add_edge.new.found.places; features = c.add_edge.new.found.features } in
    edges_more (live_behind c.args.actions.now c.args.idle.now) c.args.number now c.args.edges.now c.loop-edge.edge-index _ c.loop-edge-test.true first old new
    c.args.found.now.edges.items c.loop-edge.found.edges.items c.add_edge.new.found.edges.items before
    (c.in_ok-add_edge.ensures now (shows_kept first.features old.features before.features c.args.place now shows))

pub returns : goal.returns
returns c = λ now shows.
    edges_all (live_behind c.args.actions.now c.args.idle.now) c.args.number now c.args.edges.now c.loop-edge.edge-index (record { places = c.args.found.now.places; features = c.args.found.now.features }) (record { places = c.loop-edge.found.places; features = c.loop-edge.found.features })
    c.args.found.now.edges.items c.loop-edge.found.edges.items c.loop-edge-test.false (c.loop-edge.invariant now shows)
