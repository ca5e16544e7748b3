use Rattle.std.proofs.Common.{◌∙◌, ap, map, length}
use Rattle.fsa_rational.proofs.Walks.{same_elements}
use Rattle.lang_algebra.specs.Live.{back}
use Rattle.lang_algebra.proofs.Alive.{turned_within, live_found}
use Rattle.lang_algebra.proofs.live.live_states.Goals as goal

pub close-requires : goal.close-requires
close-requires g c =
    let a = c.args.a.now in
    let items = c.deref.ensures.value ∙ c.in_ok-reversed_edges.ensures ∙ ap (map back) c.edges.ensures.edges in
    let same = same_elements (map back a.edges) c.in_ok-rows.rows (rw items at c.in_ok-rows.ensures) in
    turned_within a c.in_ok-rows.rows same c.edges.ensures.formed c.in_ok-states.states.bound (c.in_ok-states.ensures.bound ∙ ap length c.finals.ensures.finals)

pub returns-clause-live : goal.returns-clause-live
returns-clause-live g c =
    let a = c.args.a.now in
    let items = c.deref.ensures.value ∙ c.in_ok-reversed_edges.ensures ∙ ap (map back) c.edges.ensures.edges in
    let same = same_elements (map back a.edges) c.in_ok-rows.rows (rw items at c.in_ok-rows.ensures) in
    live_found a c.in_ok-rows.rows same c.in_ok-states.states c.close.new.states (rw c.finals.ensures.finals at c.in_ok-states.ensures.states) c.in_ok-close.ensures.ok
