use denote.Param.Send.{sendable}
use Rattle.std.proofs.Common.{◌≡◌, ◌∷◌, ◌∙◌, List, Some, sym, subst, ap, arith}
use Rattle.std.proofs.lemmas.List.Elements.{All-get_or}
use Rattle.editor_session.specs.Publishing.{AreStanding}
use Rattle.lane_session.specs.Lanes.{LaneView, begun}
use Rattle.project_versions.specs.Versions.{VersionView}
use Rattle.publish_board.specs.Boards.{seated}
use Rattle.editor_session.specs.Endings.{endings_in}
use Rattle.editor_session.proofs.Crossing.{version_send, version_sync}
use Rattle.editor_session.proofs.Living.{all_served, of_board}
use Rattle.editor_session.proofs.working.work_all.Goals as goal

pub learn_all-requires : goal.learn_all-requires
learn_all-requires g c =
    let seat = seated c.args.editor.board c.args.editor.values 0 in
    let budget = c.args.session.lines.budget in
    let has_begun = All-get_or (λ (lane : LaneView VersionView). lane.work ≡ Some (begun seat budget)) c.args.lanes.now in
    record {
      board = λ i d before below has.
          of_board seat budget _ _ before (c.work-ending.ensures.lanes i d (begun seat budget) (omega arith) (has_begun i d (omega arith) c.requires.begun)) has ∙ sym (ap (λ e. e.board) c.close-closed.ensures ∙ c.work-ending.ensures.board);
    }

pub answer_rest-requires-send-V : goal.answer_rest-requires-send-V
answer_rest-requires-send-V g c κs o = let s = version_send in search sendable depth 20

pub answer_rest-requires-sync-V : goal.answer_rest-requires-sync-V
answer_rest-requires-sync-V g c κs o = let s = version_sync in search sendable depth 20

pub returns : goal.returns
returns g c = record {
  live = λ loaded published line.
      let e = c.work-ending.ensures.edited loaded published line in
      let standing = subst (λ (values : List VersionView). AreStanding values (loaded ∷ e.0)) (sym (ap (λ e. e.values) c.close-closed.ensures)) e.1 in (
        c.work-ending.result,
        endings_in c.answer_rest.new.lanes,
        c.ending_of.ensures,
        record {
          made = e.0;
          edited = e.2;
          served =
              all_served (seated c.args.editor.board c.args.editor.values 0) c.args.session.lines.budget c.close-closed.result.values (loaded ∷ e.0) standing c.args.lanes.now c.work-ending.new.lanes c.learn_all.new.lanes c.answer_rest.new.lanes
              (omega arith) (omega arith) (omega arith) c.requires.begun c.work-ending.ensures.lanes c.learn_all.ensures c.answer_rest.ensures;
        },
        c.work-ending.ensures.causes,
      );
}
