use Rattle.std.proofs.Common.{◌≡◌, List, Some, ℕ, ap, subst, ◌∙◌}
use Rattle.std.specs.Prelude.{slice_get, slice_index_or}
use Rattle.flag_diacritics.specs.declared.setting.Setting.{Setting}
use Rattle.flag_diacritics.specs.Idle.{behind_edge, masked, upper_row, lower_row}
use Rattle.flag_diacritics.specs.Search.{IsPlaceBehind}
use Rattle.flag_diacritics.proofs.Idling.{live_some}
use Rattle.flag_diacritics.proofs.search.live_place.Goals as goal

pub returns-clause-place : goal.returns-clause-place
returns-clause-place c = λ now shows.
    let actions = c.args.actions.now in
    let idle = c.args.idle.now in
    let edge = c.args.edge.now in
    let next = c.in-Some.next in
    let passed = c.place_behind.new.features in
    let between = c.masked_number.new.features in
    let new = c.masked_number-2.new.features in
    let behind = subst (λ o. IsPlaceBehind (behind_edge actions) passed edge now o) c.in-Some.is (c.in_ok-next.ensures.place now shows) in
    let up_row : c.row_at.result ≡ upper_row idle edge.to = c.row_at.ensures ∙ ap (λ (rows : List ℕ). slice_index_or rows edge.to 0) c.deref.ensures.value in
    let low_row : c.row_at-2.result ≡ lower_row idle edge.to = c.row_at-2.ensures ∙ ap (λ (rows : List ℕ). slice_index_or rows edge.to 0) c.deref-2.ensures.value in
    let up = subst (λ (row : ℕ). (u : List Setting) → slice_get passed next.upper ≡ Some u → slice_get between c.in_ok-upper.upper ≡ Some (masked row u)) up_row c.in_ok-upper.ensures.masked in
    let low = subst (λ (row : ℕ). (l : List Setting) → slice_get between next.lower ≡ Some l → slice_get new c.in_ok-lower.lower ≡ Some (masked row l)) low_row c.in_ok-lower.ensures.masked in
    live_some actions idle edge now passed new next c.in_ok-upper.upper c.in_ok-lower.lower behind
    (λ u at. c.in_ok-lower.ensures.kept c.in_ok-upper.upper (masked (upper_row idle edge.to) u) (up u at))
    (λ l at. low l (c.in_ok-upper.ensures.kept next.lower l at))
