use Rattle.std.proofs.Common.{Some, refl}
use Rattle.lane_session.proofs.Runs.{beside_start}
use Rattle.lane_session.specs.Lanes.{Work}
use Rattle.lane_session.proofs.work.Work.answer_beside.Goals as goal

pub returns : goal.returns
returns g c =
    let a = c.answer_beside-stop.ensures in
    let session = c.answer_beside-stop.new.self in
    let after : Work g.row.V.Denot = record { seat = session.seat; reader = session.lines; stop = Some c.answer_beside-stop.result } in
    rw (← c.self.view_is) (record {
      stop = c.answer_beside-stop.result;
      after = after;
      after_is = refl {a = Some after};
      stop_is = refl {a = after.stop};
      board = a.board;
      answered = λ budget begins. a.stopped _ _ _ (beside_start g.V.Replying.replies _ _ _ _ _ begins);
      causes = record { read = a.read; write = a.write; later_input = a.later_input; later_output = a.later_output };
    })
