use Rattle.std.proofs.Common.{◌≡◌, ◌↔◌, ℕ}
use Rattle.std.specs.List.{Contains}
use Rattle.std.proofs.lemmas.List.Sorted.{IsPermutation-refl}
use Rattle.fsa.specs.declared.automaton.Edge.{Edge}
use Rattle.fsa_subset.specs.declared.places.LetterIndex.{LetterIndex}
use Rattle.fsa_subset.proofs.Settling.{moves_sorted, moves_within}
use Rattle.fsa_subset.proofs.Spreading.{steps_leave}
use Rattle.fsa_subset.proofs.spread.leave.Goals as goal

pub add_steps-requires-clause-moves : goal.add_steps-requires-clause-moves
add_steps-requires-clause-moves c =
    let rows = c.args.rows.now in
    let set = c.args.set.now in
    let sorted = c.in_ok-moves.moves.items in
    let within = moves_within rows set sorted c.args.reached.now.bound (moves_sorted rows set c.in_ok-moves_from.field-0.items sorted c.in_ok-moves.ensures.same c.in_ok-moves_from.ensures) c.requires in
    rw c.deref-2.ensures.value within

pub returns-clause-steps : goal.returns-clause-steps
returns-clause-steps c =
    let rows = c.args.rows.now in
    let set = c.args.set.now in
    let sorted = c.in_ok-moves.moves.items in
    let places = c.in_ok-places.places.items in
    let are = moves_sorted rows set c.in_ok-moves_from.field-0.items sorted c.in_ok-moves.ensures.same c.in_ok-moves_from.ensures in
    let at : (place : ℕ) → Contains places place ↔ ((e : Edge LetterIndex) × Contains sorted e × (e.from ≡ place)) = rw c.deref.ensures.value at c.in_ok-places.ensures in
    steps_leave rows c.args.reached.now.bound set sorted sorted are (IsPermutation-refl sorted) places at c.args.number c.args.found.now c.add_steps.new.found
    (rw (c.deref-2.ensures.value, c.deref-3.ensures.value) at c.in_ok-add_steps.ensures.steps)
