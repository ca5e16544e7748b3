use Rattle.std.proofs.Common.{None, get_or}
use Rattle.std.proofs.lemmas.List.{get_or_default}
use Rattle.fsa.specs.declared.automaton.Edge.{Edge}
use Rattle.lookup.specs.declared.walk.Byte.{Byte}
use Rattle.lookup.proofs.Least.{on_edges_none, on_edges_more, on_edges_all}
use Rattle.lookup.proofs.walk.least_on.Goals as goal

pub edges-init : goal.edges-init
edges-init c = on_edges_none c.args.floor c.args.edges.now

pub edges-preserved : goal.edges-preserved
edges-preserved c =
    let edges = c.args.edges.now in
    let i = c.edges.edge-index in
    let none : Edge Byte = record { from = 0; letter = None; to = 0 } in
    let edge = get_or edges i none in
    on_edges_more c.args.floor edges i edge c.edges.least c.byte_of.result c.lesser-least.result c.edges-test.true
    (get_or_default edges i none edge c.edges-test.true) c.lesser-least.ensures c.edges.invariant c.byte_of.ensures

pub returns : goal.returns
returns c = on_edges_all c.args.floor c.args.edges.now c.edges.edge-index c.edges.least c.edges-test.false c.edges.invariant
