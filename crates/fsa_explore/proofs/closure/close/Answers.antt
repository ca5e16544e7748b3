use Rattle.std.proofs.Common.{◌≡◌, ◌<◌, ◌≤◌, length, get_or, ap, None, ◌∙◌}
use Rattle.std.proofs.lemmas.List.{get_or_default}
use Rattle.std.proofs.lemmas.Result.{err_from_is_err_and}
use Rattle.fsa_explore.proofs.Added.{Adds-same, Grows-weaker}
use Rattle.fsa_explore.proofs.Closed.{IsNext, target_next, next_target, closing_more, closing_grows, closing_all}
use Rattle.fsa_explore.specs.Targets.{IsTarget}
use Rattle.fsa_explore.proofs.closure.close.Goals as goal

pub add_targets-requires : goal.add_targets-requires
add_targets-requires g c = λ e h. rw c.loop-next.invariant.grows.bound (c.requires e ((c.epsilon_out.ensures e).0 h).0)

pub returns-in_err-add_targets-clause-err : goal.returns-in_err-add_targets-clause-err
returns-in_err-add_targets-clause-err g c =
    let p = err_from_is_err_and c.from_residual.result c.from_residual.ensures.1 in
    let state = get_or c.found-in-loop-next.result.now c.loop-next.next 0 in
    let inside : c.loop-next.next < length c.loop-next.states.found = rw c.found.ensures.found at c.loop-next-test.true in
    let at : state ≡ get_or c.loop-next.states.found c.loop-next.next state =
    ap (λ ks. get_or ks c.loop-next.next 0) c.found-in-loop-next.ensures.found ∙ get_or_default c.loop-next.states.found c.loop-next.next 0 state inside in
    rw p.1
    (closing_grows c.args.rows.now c.args.states.now c.loop-next.states c.loop-next.next c.loop-next.invariant state inside at c.add_targets.new.states
    (Grows-weaker c.loop-next.states c.add_targets.new.states (IsTarget c.epsilon_out.result.now None) (IsNext c.args.rows.now state)
    (target_next c.args.rows.now c.epsilon_out.result.now state c.epsilon_out.ensures) c.in_err-add_targets.ensures.err))

pub loop-next-preserved : goal.loop-next-preserved
loop-next-preserved g c =
    let state = get_or c.found-in-loop-next.result.now c.loop-next.next 0 in
    let inside : c.loop-next.next < length c.loop-next.states.found = rw c.found.ensures.found at c.loop-next-test.true in
    let at : state ≡ get_or c.loop-next.states.found c.loop-next.next state =
    ap (λ ks. get_or ks c.loop-next.next 0) c.found-in-loop-next.ensures.found ∙ get_or_default c.loop-next.states.found c.loop-next.next 0 state inside in
    closing_more c.args.rows.now c.args.states.now c.loop-next.states c.loop-next.next c.loop-next.invariant state inside at c.add_targets.new.states
    (Adds-same c.loop-next.states c.add_targets.new.states (IsTarget c.epsilon_out.result.now None) (IsNext c.args.rows.now state)
    (target_next c.args.rows.now c.epsilon_out.result.now state c.epsilon_out.ensures) (next_target c.args.rows.now c.epsilon_out.result.now state c.epsilon_out.ensures) c.in_ok-add_targets.ensures.ok)

pub returns-clause-ok : goal.returns-clause-ok
returns-clause-ok g c =
    let past : length c.loop-next.states.found ≤ c.loop-next.next = rw c.found.ensures.found at c.loop-next-test.false in
    closing_all c.args.rows.now c.args.states.now c.loop-next.states c.loop-next.next c.loop-next.invariant past
