use Rattle.std.proofs.Common.{◌≡◌, length, ap, ◌∙◌}
use Rattle.fsa_partial.proofs.Searched.{turned_within, leads}
use Rattle.fsa_partial.proofs.search.leading_states.Goals as goal

pub close-requires : goal.close-requires
close-requires g c =
    let a = c.args.m.now in
    let bound : c.add_finals.new.states.bound ≡ length a.finals = c.in_ok-add_finals.ensures.bound ∙ ap (λ m. m.bound) c.in_ok-leading.ensures ∙ c.states.ensures.number in
    turned_within a c.in_ok-rows.rows (rw (c.deref.ensures.value, c.in_ok-turned_edges.ensures, c.edges.ensures.edges) at c.in_ok-rows.ensures) c.edges.ensures.formed c.add_finals.new.states.bound bound

pub returns-clause-leads : goal.returns-clause-leads
returns-clause-leads g c =
    leads c.args.m.now c.in_ok-rows.rows (rw (c.deref.ensures.value, c.in_ok-turned_edges.ensures, c.edges.ensures.edges) at c.in_ok-rows.ensures) c.in_ok-leading.leading c.add_finals.new.states c.close.new.states
    (ap (λ m. m.found) c.in_ok-leading.ensures) (rw c.finals.ensures.finals at c.in_ok-add_finals.ensures) c.in_ok-close.ensures.ok.grows
