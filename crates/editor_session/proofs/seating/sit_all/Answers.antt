use Rattle.std.proofs.Common.{◌≡◌, ◌<◌, ◌∙◌, IfSome, arith, length, length-set, slice_index_or, subst}
use Rattle.std.proofs.lemmas.List.Elements.{All-pop}
use Rattle.fsm_io.specs.Reading.{LinesView, at_start}
use Rattle.project_versions.specs.Versions.{VersionView}
use Rattle.publish_board.specs.Boards.{Seated}
use Rattle.editor_session.proofs.Sitting.{one_more_sits, one_shorter, others_stay, sits_on}
use Rattle.editor_session.proofs.seating.sit_all.Goals as goal

pub lanes-preserved : goal.lanes-preserved
lanes-preserved g c =
    let i = c.lanes.i in let xs = c.args.lanes.now in let ys = c.lanes.lanes in let one = c.sit.new.self in
    let below : i < length ys = omega arith in (
      length-set ys i one ∙ c.lanes.invariant.0,
      omega (arith, c.lanes.invariant.1, one_shorter c.lanes.seats.items c.pop.new.self.items c.pop.result c.in-Some-Some.seat c.pop.ensures.items c.in-Some-Some.is-0),
      omega (arith, c.lanes.invariant.2, one_shorter c.lanes.rows.items c.pop-in-lanes.new.self.items c.pop-in-lanes.result c.in-Some-Some.lines c.pop-in-lanes.ensures.items c.in-Some-Some.is-1),
      λ seat budget seats rows.
          let so_far = c.lanes.invariant.3 seat budget seats rows in
          let left = All-pop (λ (s : Seated VersionView). s ≡ seat) c.lanes.seats.items c.pop.new.self.items c.pop.result c.pop.ensures.items so_far.0 in
          let more = All-pop (λ (lines : LinesView). lines ≡ at_start budget) c.lanes.rows.items c.pop-in-lanes.new.self.items c.pop-in-lanes.result c.pop-in-lanes.ensures.items so_far.1 in
          let seat_is : c.in-Some-Some.seat ≡ seat = subst (λ o. IfSome o (λ (s : Seated VersionView). s ≡ seat)) c.in-Some-Some.is-0 left.1 in
          let lines_are : c.in-Some-Some.lines ≡ at_start budget = subst (λ o. IfSome o (λ (lines : LinesView). lines ≡ at_start budget)) c.in-Some-Some.is-1 more.1 in
          let sits = sits_on seat budget one (slice_index_or ys i c.index-lanes-i.result) c.in-Some-Some.seat c.in-Some-Some.lines c.sit.ensures seat_is lines_are in (
            left.0,
            more.0,
            others_stay seat budget xs ys i one so_far.2,
            one_more_sits seat budget xs ys i one c.index-lanes-i.result below so_far.2 so_far.3 sits,
          ),
    )

pub returns : goal.returns
returns g c seat budget seats rows =
    let all = c.lanes.invariant.3 seat budget seats rows in
    record { count = c.lanes.invariant.0; each = λ i d below. all.3 i d (omega arith) }
