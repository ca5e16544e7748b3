use Rattle.std.proofs.Common.{◌≡◌, ◌++◌, ◌∷◌, [], Contains, length, ap, subst, ◌∙◌}
use Rattle.word_relations.proofs.Members.{Contains-nil_cases}
use Rattle.fsa_partial.proofs.Searched.{bare_within, led}
use Rattle.fsa_partial.proofs.search.reached_states.Goals as goal

pub close-requires : goal.close-requires
close-requires g c =
    let a = c.args.m.now in
    let bound : c.add.new.self.bound ≡ length a.finals = c.in_ok-add.ensures.ok.grows.bound ∙ ap (λ m. m.bound) c.in_ok-reached.ensures ∙ c.states.ensures.number in
    bare_within a c.in_ok-rows.rows (rw (c.deref.ensures.value, c.in_ok-bare_edges.ensures, c.edges.ensures.edges) at c.in_ok-rows.ensures) c.edges.ensures.formed c.add.new.self.bound bound

pub returns-clause-led : goal.returns-clause-led
returns-clause-led g c = λ no.
    led c.args.m.now c.in_ok-rows.rows (rw (c.deref.ensures.value, c.in_ok-bare_edges.ensures, c.edges.ensures.edges) at c.in_ok-rows.ensures) no c.add.new.self c.close.new.states
    (ap (λ m. m.found) (c.in_ok-add.ensures.last (λ h. Contains-nil_cases 0 (subst (λ m. Contains m.found 0) c.in_ok-reached.ensures h))) ∙ ap (λ m. m.found ++ 0 ∷ []) c.in_ok-reached.ensures) c.in_ok-close.ensures.ok.grows
