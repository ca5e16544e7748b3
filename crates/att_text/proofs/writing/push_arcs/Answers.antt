use Rattle.std.proofs.Common.{None, get_or}
use Rattle.std.specs.String.{string_bytes}
use Rattle.std.proofs.lemmas.Option.{slice_get-get_or}
use Rattle.word_relations.proofs.Places.{Contains-from_slice_get}
use Rattle.fsm_base.specs.declared.letters.Pair.{Pair}
use Rattle.fsa.specs.declared.automaton.Edge.{Edge}
use Rattle.att_text.proofs.Placed.{arcs_none, arcs_more}
use Rattle.att_text.proofs.writing.push_arcs.Goals as goal

pub edges-init : goal.edges-init
edges-init c = arcs_none c.args.alphabet.now c.args.place c.args.edges.now (string_bytes c.args.text.now) c.args.states.now c.requires.once

pub edges-preserved : goal.edges-preserved
edges-preserved c =
    let none : Edge Pair = record { from = 0; letter = None; to = 0 } in
    let e : Edge Pair = get_or c.args.edges.now c.edges.edge-index none in
    let at = slice_get-get_or c.args.edges.now c.edges.edge-index none c.edges-test.true in
    arcs_more c.args.alphabet.now c.args.place c.args.edges.now (string_bytes c.args.text.now) c.args.states.now
    c.edges.edge-index (string_bytes c.edges.text) (string_bytes c.push_arc.new.text) c.edges.states c.place_of.new.self e c.in_ok-to.to
    c.requires.fields (c.requires.symbols e (Contains-from_slice_get c.args.edges.now c.edges.edge-index e at)) c.ranges.place.fits c.in_ok-to.ensures.small at
    c.in_ok-to.ensures.place c.in_ok-to.ensures.kept c.in_ok-to.ensures.once c.in_ok-push_arc.ensures c.edges.invariant
