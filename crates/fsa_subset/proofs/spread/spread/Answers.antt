use Rattle.std.proofs.Common.{◌≡◌, ◌<◌, ◌≤◌, Some, ap, sym, subst, ◌∙◌}
use Rattle.std.specs.List.{slice_get}
use Rattle.fsa_subset.specs.Sets.{HasMove, IsSettled, LeadsBy}
use Rattle.fsa_subset.specs.Partial.{AddsSteps}
use Rattle.fsa_subset.proofs.Spreading.{spread_more, spread_all}
use Rattle.fsa_subset.proofs.spread.spread.Goals as goal

pub first_set-requires-clause-within : goal.first_set-requires-clause-within
first_set-requires-clause-within c = λ e h. subst (λ n. e.to < n) (sym (ap (λ m. m.bound) c.in_ok-reached.ensures)) (c.requires.within e h)

pub leave-requires : goal.leave-requires
leave-requires c = λ e h. subst (λ n. e.to < n) (sym c.sets.invariant.0) (c.requires.within e h)

pub sets-preserved : goal.sets-preserved
sets-preserved c =
    let rows = c.args.rows.now in
    let states = c.args.states in
    let (start, is, spread) = c.sets.invariant.1 in
    let set = c.in_ok-set.set.items in
    let at : slice_get c.sets.found.sets c.sets.next ≡ Some set = rw c.in_ok-set.ensures.items c.set.ensures in
    let adds : AddsSteps (IsSettled rows states) (LeadsBy rows set) c.sets.next (HasMove rows set) c.sets.found c.leave.new.found = rw (c.sets.invariant.0, c.deref.ensures.value) at c.in_ok-moves.ensures.steps in
    (c.leave.ensures.bound ∙ c.sets.invariant.0, (start, is, spread_more (IsSettled rows states) (LeadsBy rows) (HasMove rows) start c.sets.next set c.sets.found c.leave.new.found at adds spread))

pub returns : goal.returns
returns c =
    let rows = c.args.rows.now in
    let (start, is, spread) = c.sets.invariant.1 in
    (start, is, spread_all (IsSettled rows c.args.states) (LeadsBy rows) (HasMove rows) start c.sets.next c.sets.found (subst (λ n. n ≤ c.sets.next) c.len.ensures c.sets-test.false) spread)
