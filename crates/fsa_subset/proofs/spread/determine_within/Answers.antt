use Rattle.std.proofs.Common.{◌≡◌, ◌<◌, ◌↔◌, Some, IfSome, length, map, sym, subst, ap, ◌∙◌}
use Rattle.std.specs.List.{Contains, All}
use Rattle.word_relations.proofs.Members.{Contains-map_cases}
use Rattle.fsa.specs.Automaton.{UsesLetter}
use Rattle.fsa.specs.Language.{Accepts}
use Rattle.fsa.specs.declared.automaton.Edge.{Edge}
use Rattle.fsa_subset.specs.Placed.{IsPlaced, with_letter}
use Rattle.fsa_subset.specs.Partial.{IsSpreadBy, AreFinal}
use Rattle.fsa_subset.proofs.Placing.{placed_within}
use Rattle.fsa_subset.proofs.Partly.{sets_within, edges_within, spread_language, spread_letters}
use Rattle.fsa_subset.proofs.spread.determine_within.Goals as goal

pub placed_rows-requires-clause-all : goal.placed_rows-requires-clause-all
placed_rows-requires-clause-all g c = λ e x h is.
    let same = c.edges-2.ensures.edges ∙ sym c.edges.ensures.edges in
    subst (λ xs. Contains xs x) (sym c.deref.ensures.value) (c.in_ok-letters.ensures.all e x (subst (λ es. Contains es e) same h) is)

pub spread-requires-clause-within : goal.spread-requires-clause-within
spread-requires-clause-within g c =
    placed_within c.deref.result.now c.edges-2.result.now c.in_ok-rows.rows c.states.result c.in_ok-rows.ensures
    (λ e h. subst (λ n. e.to < n) (sym c.states.ensures.number) (c.edges-2.ensures.formed.within e (subst (λ es. Contains es e) c.edges-2.ensures.edges h)).1)

pub finals_of-requires : goal.finals_of-requires
finals_of-requires g c = λ set h.
    let rows = c.in_ok-rows.rows in
    let found = c.in-Some.found in
    let built : IsSpreadBy rows c.states.result (length found.sets) found = subst (λ o. IfSome o (λ p. IsSpreadBy rows c.states.result (length p.sets) p)) c.in-Some.is c.in_ok-found.ensures in
    let same = c.states.ensures.number ∙ sym (ap length c.finals.ensures.finals) in
    subst (λ n. All (λ p. p < n) set) same (sets_within rows c.states.result (length found.sets) found built set h)

pub of-requires-clause-within : goal.of-requires-clause-within
of-requires-clause-within g c = λ e h.
    let rows = c.in_ok-rows.rows in
    let found = c.in-Some.found in
    let built : IsSpreadBy rows c.states.result (length found.sets) found = subst (λ o. IfSome o (λ p. IsSpreadBy rows c.states.result (length p.sets) p)) c.in-Some.is c.in_ok-found.ensures in
    let old = Contains-map_cases (with_letter c.deref-2.result.now) c.edges-3.result.now e (subst (λ es. Contains es e) c.in_ok-edges.ensures h) in
    let within = edges_within rows c.states.result (length found.sets) found built old.0 (subst (λ es. Contains es old.0) c.edges-3.ensures old.1) in
    rw c.in_ok-finals.ensures.count (subst (λ (d : Edge g.row.L.Denot). (d.from < length found.sets) × (d.to < length found.sets)) old.2 within)

pub returns-clause-letters : goal.returns-clause-letters
returns-clause-letters g c =
    let a = c.args.a.now in
    let letters = c.in_ok-letters.letters.items in
    let rows = c.in_ok-rows.rows in
    let found = c.in-Some.found in
    let marks = c.in_ok-finals.finals.items in
    let placed : IsPlaced letters a.edges rows = rw (c.deref.ensures.value, c.edges-2.ensures.edges) at c.in_ok-rows.ensures in
    let all : (e : Edge g.row.L.Denot) (x : g.row.L.Denot) → Contains a.edges e → e.letter ≡ Some x → Contains letters x = rw c.edges.ensures.edges at c.in_ok-letters.ensures.all in
    let built : IsSpreadBy rows (length a.finals) (length found.sets) found =
    rw c.states.ensures.number at (subst (λ o. IfSome o (λ p. IsSpreadBy rows c.states.result (length p.sets) p)) c.in-Some.is c.in_ok-found.ensures) in
    let final : AreFinal a.finals found.sets marks = rw c.finals.ensures.finals at c.in_ok-finals.ensures in
    let made : c.of.result ≡ record { edges = map (with_letter letters) found.edges; finals = marks } =
    c.of.ensures ∙ ap (λ es. record { edges = es; finals = marks }) (rw (c.deref-2.ensures.value, c.edges-3.ensures) at c.in_ok-edges.ensures) in
    λ x used. spread_letters a letters rows placed all found built marks final x (subst (λ n. UsesLetter n x) made used)

pub returns-clause-language : goal.returns-clause-language
returns-clause-language g c =
    let a = c.args.a.now in
    let letters = c.in_ok-letters.letters.items in
    let rows = c.in_ok-rows.rows in
    let found = c.in-Some.found in
    let marks = c.in_ok-finals.finals.items in
    let placed : IsPlaced letters a.edges rows = rw (c.deref.ensures.value, c.edges-2.ensures.edges) at c.in_ok-rows.ensures in
    let all : (e : Edge g.row.L.Denot) (x : g.row.L.Denot) → Contains a.edges e → e.letter ≡ Some x → Contains letters x = rw c.edges.ensures.edges at c.in_ok-letters.ensures.all in
    let built : IsSpreadBy rows (length a.finals) (length found.sets) found =
    rw c.states.ensures.number at (subst (λ o. IfSome o (λ p. IsSpreadBy rows c.states.result (length p.sets) p)) c.in-Some.is c.in_ok-found.ensures) in
    let final : AreFinal a.finals found.sets marks = rw c.finals.ensures.finals at c.in_ok-finals.ensures in
    let made : c.of.result ≡ record { edges = map (with_letter letters) found.edges; finals = marks } =
    c.of.ensures ∙ ap (λ es. record { edges = es; finals = marks }) (rw (c.deref-2.ensures.value, c.edges-3.ensures) at c.in_ok-edges.ensures) in
    λ w. subst (λ n. Accepts n w ↔ Accepts a w) (sym made) (spread_language a letters rows placed all found built marks final w)
