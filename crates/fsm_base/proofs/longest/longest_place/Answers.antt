use Rattle.std.proofs.Common.{◌≡◌, ℕ, ◌<◌, List, length, take, nat_eq, [], sym, ap, subst, ◌∙◌, arith}
use Rattle.std.proofs.lemmas.List.{length-take}
use Rattle.std.proofs.lemmas.List.Sums.{common_prefix_len-le}
use Rattle.std.specs.List.{common_prefix_len}
use Rattle.fsm_base.specs.Sorted.{texts_in, text_at}
use Rattle.fsm_base.proofs.OrderLemmas.{IsNarrowed, shared_is, shared-lt, narrowed_more, longest_from_last, none_from_none_up_to}
use Rattle.fsm_base.proofs.SortedLemmas.{get_or-texts}
use Rattle.fsm_base.proofs.longest.longest_place.Goals as goal

pub returns-then-shared-text : goal.returns-then-shared-text
returns-then-shared-text c =
    let entries = c.args.entries.now in
    let front = c.fronts.front.now in
    let last = text_at entries c.in-Some.place in
    let text : c.as_bytes-text.result.now ≡ last =
    c.as_bytes-text.ensures.value ∙ c.as_str.ensures ∙ sym (get_or-texts entries c.in-Some.place c.index-entries-place.result [] c.in-Some.ensures.0) in
    let shared : c.shared_len-shared.result ≡ common_prefix_len nat_eq last front =
    c.shared_len-shared.ensures ∙ shared_is c.as_bytes-text.result.now front ∙ ap (λ t. common_prefix_len nat_eq t front) text in
    (c.in-Some.ensures.0, longest_from_last _ _ _ _ c.fronts.invariant c.in-Some.ensures.1 (sym shared ∙ c.if-shared-text.true ∙ ap (λ (t : List ℕ). length t) text))

pub slice_bounds-front-end : goal.slice_bounds-front-end
slice_bounds-front-end c =
    let front = c.fronts.front.now in
    let shared : c.shared_len-shared.result ≡ common_prefix_len nat_eq c.as_bytes-text.result.now front =
    c.shared_len-shared.ensures ∙ shared_is c.as_bytes-text.result.now front in
    omega (arith, shared, length-take c.shared_len-shared.result front, (common_prefix_len-le nat_eq c.as_bytes-text.result.now front).1)

pub fronts-smaller : goal.fronts-smaller
fronts-smaller c =
    let entries = c.args.entries.now in
    let front = c.fronts.front.now in
    let last = text_at entries c.in-Some.place in
    let text : c.as_bytes-text.result.now ≡ last =
    c.as_bytes-text.ensures.value ∙ c.as_str.ensures ∙ sym (get_or-texts entries c.in-Some.place c.index-entries-place.result [] c.in-Some.ensures.0) in
    let shared : c.shared_len-shared.result ≡ common_prefix_len nat_eq last front =
    c.shared_len-shared.ensures ∙ shared_is c.as_bytes-text.result.now front ∙ ap (λ t. common_prefix_len nat_eq t front) text in
    let smaller : common_prefix_len nat_eq last front < length front =
    shared-lt last front c.in-Some.ensures.1.up_to (λ whole. c.if-shared-text.false (shared ∙ whole ∙ sym (ap (λ (t : List ℕ). length t) text))) in
    omega (arith, shared, smaller, length-take c.shared_len-shared.result front)

pub fronts-preserved : goal.fronts-preserved
fronts-preserved c =
    let entries = c.args.entries.now in
    let front = c.fronts.front.now in
    let last = text_at entries c.in-Some.place in
    let text : c.as_bytes-text.result.now ≡ last =
    c.as_bytes-text.ensures.value ∙ c.as_str.ensures ∙ sym (get_or-texts entries c.in-Some.place c.index-entries-place.result [] c.in-Some.ensures.0) in
    let shared : c.shared_len-shared.result ≡ common_prefix_len nat_eq last front =
    c.shared_len-shared.ensures ∙ shared_is c.as_bytes-text.result.now front ∙ ap (λ t. common_prefix_len nat_eq t front) text in
    subst (λ n. IsNarrowed (texts_in entries) c.args.bytes.now (take n front)) (sym shared) (narrowed_more _ _ _ _ c.fronts.invariant c.in-Some.ensures.1)

pub returns : goal.returns
returns c = none_from_none_up_to _ _ _ c.fronts.invariant c.in_default.ensures
