use Rattle.std.proofs.Common.{◌<◌, subst, sym, ◌∙◌}
use Rattle.fsa_explore.specs.Explored.{AddsTarget}
use Rattle.fsa_explore.proofs.Exploring.{AddsRow-push}
use Rattle.fsa_subset.specs.Sets.{IsSettled, IsTargetSet}
use Rattle.fsa_subset.proofs.Settling.{target_of}
use Rattle.fsa_subset.proofs.subsets.add_sets.Goals as goal

pub target_set-requires-clause-moves : goal.target_set-requires-clause-moves
target_set-requires-clause-moves c = λ e h. subst (λ n. e.to < n) (sym c.loop-place.invariant.0) (c.requires.moves e ((c.out.ensures e).0 h).0)

pub loop-place-preserved : goal.loop-place-preserved
loop-place-preserved c =
    let rows = c.args.rows.now in
    let moves = c.args.moves.now in
    let bound = c.args.states.now.bound in
    let set = c.in_ok-set.set.items in
    let state : IsSettled rows bound set = subst (λ n. IsSettled rows n set) c.loop-place.invariant.0 c.in_ok-set.ensures.settled in (
      c.in_ok-set.ensures.bound ∙ c.loop-place.invariant.0,
      AddsRow-push (IsSettled rows bound) (IsTargetSet rows moves) c.loop-place.place c.args.found.now c.loop-place.found c.push.new.self set state
          (target_of rows moves c.out.result.now c.loop-place.place c.out.ensures set c.in_ok-set.ensures.set) (subst (AddsTarget c.loop-place.found c.push.new.self) c.deref.ensures.value c.in_ok-push.ensures) c.loop-place.invariant.1,
    )
