use borrow.Author.Count.{below_more}
use Rattle.std.proofs.Common.{◌≡◌, ◌<◌, Some, sym, subst, ap, ◌∙◌, arith, length, get_or, set}
use Rattle.std.proofs.lemmas.List.{get_or-set_same, get_or-set_other, get_or_default}
use Rattle.lane_session.specs.Lanes.{LaneView, Learns, Work}
use Rattle.lane_session.proofs.lanes.learn_all.Goals as goal

pub learn_one-requires : goal.learn_one-requires
learn_one-requires g c =
    let i = c.seats.i in
    let l : i < length c.seats.lanes = omega arith in
    record { board = λ before has. c.requires.board i _ before (omega arith) (ap (λ (x : LaneView g.row.V.Denot). x.work) (sym (c.seats.invariant.0 i c.index-lanes-i.result (omega arith))) ∙ has) }

pub seats-preserved : goal.seats-preserved
seats-preserved g c =
    let i = c.seats.i in let xs = c.args.lanes.now in let ys = c.seats.lanes in let y = c.learn_one.new.lane in
    let R : LaneView g.row.V.Denot → LaneView g.row.V.Denot → Type 0 = λ x z. (before : Work g.row.V.Denot) → x.work ≡ Some before → Learns c.args.closed.now.values before x z in
    let l : i < length ys = omega arith in (
      λ j d h. get_or-set_other ys i j y d (λ e. omega arith) ∙ c.seats.invariant.0 j d (omega arith),
      λ j d h. below_more (λ k. R (get_or xs k d) (get_or (set ys i y) k d)) i
          (λ k u. subst (R (get_or xs k d)) (sym (get_or-set_other ys i k y d (λ e. omega arith))) (c.seats.invariant.1 k d u))
          (subst (R (get_or xs i d)) (sym (get_or-set_same ys i y d l))
          (subst (λ x. R x y) (get_or_default ys i _ d l ∙ c.seats.invariant.0 i d (omega arith)) c.learn_one.ensures))
          j h,
    )

pub returns : goal.returns
returns g c i d before below has = c.seats.invariant.1 i d (omega arith) before has
