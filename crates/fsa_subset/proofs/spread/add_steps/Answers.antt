use Rattle.std.proofs.Common.{◌<◌, get_or, refl, subst, sym, ◌∙◌}
use Rattle.fsa_subset.specs.Sets.{IsSettled, IsTargetSet}
use Rattle.fsa_subset.proofs.Settling.{target_of}
use Rattle.fsa_subset.proofs.Spreading.{steps_more}
use Rattle.fsa_subset.proofs.spread.add_steps.Goals as goal

pub target_set-requires-clause-moves : goal.target_set-requires-clause-moves
target_set-requires-clause-moves c = λ e h. subst (λ n. e.to < n) (sym c.places.invariant.0) (c.requires.moves e ((c.edges_from.ensures e).0 h).0)

pub places-preserved : goal.places-preserved
places-preserved c =
    let rows = c.args.rows.now in
    let moves = c.args.moves.now in
    let bound = c.args.reached.now.bound in
    let places = c.args.places.now in
    let i = c.places.place-index in
    let place = get_or places i 0 in
    let set = c.in_ok-set.set.items in
    let state : IsSettled rows bound set = subst (λ n. IsSettled rows n set) c.places.invariant.0 c.in_ok-set.ensures.settled in
    let leads = target_of rows moves c.edges_from.result.now place c.edges_from.ensures set c.in_ok-set.ensures.set in (
      c.in_ok-set.ensures.bound ∙ c.places.invariant.0,
      steps_more (IsSettled rows bound) (IsTargetSet rows moves) c.args.number places i place set c.args.found.now c.places.found c.add.new.self
          c.places-test.true refl state leads c.in_ok-add.ensures c.places.invariant.1,
    )
