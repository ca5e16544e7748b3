use Rattle.std.proofs.Common.{◌<◌, None, get_or, arith}
use Rattle.std.proofs.lemmas.List.Elements.{Contains-get_or}
use Rattle.fsm_base.specs.declared.letters.Sym.{Sym}
use Rattle.fsa.specs.declared.automaton.Edge.{Edge}
use Rattle.lookup.proofs.conditions.raised_edges.Goals as goal

abbrev no_edge : Edge Sym
no_edge = record { from = 0; letter = None; to = 0 }

pub overflow_add-edge : goal.overflow_add-edge
overflow_add-edge c =
    let e : Edge Sym = get_or c.args.edges.now c.loop-edge.edge-index no_edge in
    let inside : e.from < c.args.states = (c.requires e (Contains-get_or c.args.edges.now c.loop-edge.edge-index no_edge c.loop-edge-test.true)).0 in
    omega (arith, c.ranges.states.fits)

pub overflow_add-edge-in-loop-edge : goal.overflow_add-edge-in-loop-edge
overflow_add-edge-in-loop-edge c =
    let e : Edge Sym = get_or c.args.edges.now c.loop-edge.edge-index no_edge in
    let inside : e.to < c.args.states = (c.requires e (Contains-get_or c.args.edges.now c.loop-edge.edge-index no_edge c.loop-edge-test.true)).1 in
    omega (arith, c.ranges.states.fits)
