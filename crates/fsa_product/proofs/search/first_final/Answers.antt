use Rattle.std.proofs.Common.{◌<◌, ◌≤◌, length, get_or, subst, sym, ◌∙◌}
use Rattle.std.proofs.lemmas.Bool.{false≢true}
use Rattle.fsa_product.proofs.Searching.{state_at, search_start, search_more, search_none, search_hit}
use Rattle.fsa_product.proofs.search.first_final.Goals as goal

pub loop-number-init : goal.loop-number-init
loop-number-init g c = search_start c.args.a.now c.requires.states c.args.search.now.reached c.args.search.now.steps.items c.requires.reached c.requires.steps

pub returns-then-is_final-clause-some : goal.returns-then-is_final-clause-some
returns-then-is_final-clause-some g c =
    let now = c.loop-number.search in
    let number = c.loop-number.number in
    let inside : number < length c.found-in-loop-number.result.now = subst (λ xs. number < length xs) (c.found.ensures.found ∙ sym c.found-in-loop-number.ensures.found) c.loop-number-test.true in
    let at = state_at now.reached.found c.found-in-loop-number.result.now number c.found-in-loop-number.ensures.found inside in
    search_hit c.args.a.now number now.reached now.steps.items c.loop-number.invariant (get_or c.found-in-loop-number.result.now number 0) at (c.is_final.ensures.0 c.if-is_final.true)

pub reach_next-requires-clause-state : goal.reach_next-requires-clause-state
reach_next-requires-clause-state g c =
    let now = c.loop-number.search in
    let number = c.loop-number.number in
    let inside : number < length c.found-in-loop-number.result.now = subst (λ xs. number < length xs) (c.found.ensures.found ∙ sym c.found-in-loop-number.ensures.found) c.loop-number-test.true in
    state_at now.reached.found c.found-in-loop-number.result.now number c.found-in-loop-number.ensures.found inside

pub loop-number-preserved : goal.loop-number-preserved
loop-number-preserved g c =
    let new = c.reach_next.new.search in
    search_more c.args.a.now c.loop-number.number new.reached new.steps.items (get_or c.found-in-loop-number.result.now c.loop-number.number 0) c.in_ok-reach_next.ensures.search c.in_ok-reach_next.ensures.state c.in_ok-reach_next.ensures.next
    (λ final. false≢true (sym c.if-is_final.false ∙ c.is_final.ensures.1 final))

pub returns-clause-none : goal.returns-clause-none
returns-clause-none g c =
    let now = c.loop-number.search in
    let past : length now.reached.found ≤ c.loop-number.number = subst (λ xs. length xs ≤ c.loop-number.number) c.found.ensures.found c.loop-number-test.false in
    λ none. search_none c.args.a.now c.loop-number.number now.reached now.steps.items c.loop-number.invariant past
