use Rattle.std.proofs.Common.{◌≡◌, ◌≤◌, Some, length, replicate, ap, refl, subst, rules}
use Rattle.std.specs.List.{slice_get, Contains}
use Rattle.std.proofs.lemmas.Option.{slice_get_within}
use Rattle.fsa.specs.declared.automaton.Edge.{Edge}
use Rattle.fsa_rational.proofs.Walks.{same_elements}
use Rattle.flag_diacritics.specs.declared.tape.Tape.{Tape}
use Rattle.flag_diacritics.specs.declared.setting.Setting.TheVariants.{Neutral}
use Rattle.flag_diacritics.specs.Numbers.{Features}
use Rattle.flag_diacritics.specs.Idle.{live_behind}
use Rattle.flag_diacritics.specs.Search.{Names, IsAt, AddsEdges}
use Rattle.flag_diacritics.proofs.Passing.{all_neutral}
use Rattle.flag_diacritics.proofs.Searching.{AddsEdges-same, exploring_none, exploring_more, exploring_all}
use Rattle.flag_diacritics.proofs.search.explore.Goals as goal

pub places-init : goal.places-init
places-init c =
    let first : slice_get c.in_ok-found.found.features 0 ≡ Some (replicate c.args.actions.now.features Neutral) = ap (λ fs. slice_get fs 0) c.in_ok-found.ensures.features in
    exploring_none (live_behind c.args.actions.now.list.items c.args.idle.now) c.args.net.now (all_neutral c.args.actions.now.features) (record { places = c.in_ok-found.found.places; features = c.in_ok-found.found.features })
    c.in_ok-found.found.edges.items c.new-finals.result.items c.in_ok-found.ensures.places (record { upper = first; lower = first }) c.in_ok-found.ensures.edges c.new-finals.ensures.items

pub add_edges-requires-clause-upper : goal.add_edges-requires-clause-upper
add_edges-requires-clause-upper c =
    let s = c.places.invariant.shown c.len-number.result c.get-place.result c.get-place.ensures in
    slice_get_within c.places.found.features c.get-place.result.upper (s.0).upper s.1.upper

pub add_edges-requires-clause-lower : goal.add_edges-requires-clause-lower
add_edges-requires-clause-lower c =
    let s = c.places.invariant.shown c.len-number.result c.get-place.result c.get-place.ensures in
    slice_get_within c.places.found.features c.get-place.result.lower (s.0).lower s.1.lower

pub places-preserved : goal.places-preserved
places-preserved c =
    let step = live_behind c.args.actions.now.list.items c.args.idle.now in
    let net = c.args.net.now in
    let place = c.get-place.result in
    let old : Names = record { places = c.places.found.places; features = c.places.found.features } in
    let new : Names = record { places = c.add_edges.new.found.places; features = c.add_edges.new.found.features } in
    let old_edges = c.places.found.edges.items in
    let edges = c.add_edges.new.found.edges.items in
    let finals = c.places.finals.items in
    let number : c.len-number.result ≡ length finals = search rules in
    let s = c.places.invariant.shown c.len-number.result place c.get-place.ensures in
    let now : Features = s.0 in
    let at : slice_get old.places (length finals) ≡ Some place = subst (λ n. slice_get old.places n ≡ Some place) number c.get-place.ensures in
    let here : IsAt old (length finals) place.state now = record { place = place; stands = at; state_is = refl; shows = s.1 } in
    let added : AddsEdges step c.len-number.result now (Contains c.out.result.now) old old_edges new edges = rw c.deref.ensures.value at c.in_ok-add_edges.ensures now s.1 in
    let of_net = AddsEdges-same step c.len-number.result now (Contains c.out.result.now) (λ (e : Edge Tape). Contains net.edges e × (e.from ≡ place.state)) old new old_edges edges
    (λ e.
    let out = c.out.ensures e in
    let same = same_elements net.edges c.in_ok-rows.rows (rw c.edges.ensures.edges at c.in_ok-rows.ensures) e in
    (λ h. let r = out.0 h in (same.0 r.0, r.1), λ h. out.1 (same.1 h.0, h.1)))
    added in
    exploring_more step net (all_neutral c.args.actions.now.features) old new old_edges edges finals c.push.new.self.items place.state now c.is_final.result c.places.invariant here
    (rw c.finals.ensures.finals at c.is_final.ensures) c.in_ok-push.ensures.items
    (subst (λ n. AddsEdges step n now (λ (e : Edge Tape). Contains net.edges e × (e.from ≡ place.state)) old old_edges new edges) number of_net)

pub returns-clause-found : goal.returns-clause-found
returns-clause-found c =
    let past : length c.places.found.places ≤ length c.places.finals.items = search (rules, c.places-test.false) in
    let names : Names = record { places = c.places.found.places; features = c.places.found.features } in
    (names, exploring_all (live_behind c.args.actions.now.list.items c.args.idle.now) c.args.net.now (all_neutral c.args.actions.now.features) names c.places.found.edges.items c.places.finals.items past c.places.invariant)
