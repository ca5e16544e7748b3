use Rattle.std.proofs.Common.{◌≡◌, ◌<◌, Some, get_or, inl, inr, subst, ap, arith}
use Rattle.std.specs.List.{slice_get}
use Rattle.std.proofs.lemmas.Bool.{cases_lt}
use Rattle.std.proofs.lemmas.Option.{slice_get-get_or, slice_get_within}
use Rattle.word_relations.proofs.Places.{same_at}
use Rattle.lookup.specs.declared.walk.Move.{Move}
use Rattle.lookup.proofs.Moves.{least_found, least_not_found}
use Rattle.lookup.proofs.walk.least_move.Goals as goal

pub returns-then-floor-from : goal.returns-then-floor-from
returns-then-floor-from c =
    let moves = c.args.moves.now in
    let i = c.loop-other.other-index in
    let none : Move = record { byte = 0; to = 0 } in
    least_found moves c.args.floor c.requires i (get_or moves i none) (slice_get-get_or moves i none c.loop-other-test.true) (omega (arith, c.if-floor-from.true, c.from.ensures)) c.loop-other.invariant

pub loop-other-preserved : goal.loop-other-preserved
loop-other-preserved c = λ k x l there.
    let moves = c.args.moves.now in
    let i = c.loop-other.other-index in
    let none : Move = record { byte = 0; to = 0 } in
    elim (cases_lt k i) as (λ _. x.byte < c.args.floor) [
      | inl before ↦ c.loop-other.invariant k x before there
      | inr behind ↦
          let e : k ≡ i = omega arith in
          let same = same_at moves i x (get_or moves i none) (subst (λ n. slice_get moves n ≡ Some x) e there) (slice_get-get_or moves i none c.loop-other-test.true) in
          omega (arith, ap (λ (m : Move). m.byte) same, c.if-floor-from.false, c.from.ensures)
    ]

pub returns : goal.returns
returns c =
    let moves = c.args.moves.now in
    least_not_found moves c.args.floor c.requires (λ k x there. c.loop-other.invariant k x (omega (arith, slice_get_within moves k x there, c.loop-other-test.false)) there)
