use Rattle.std.proofs.Common.{None}
use Rattle.fsm_io.proofs.Streams.{settled_by}
use Rattle.lane_meaning.specs.Lanes.{Answers, behind}
use Rattle.lane_session.proofs.Sent.{last_has}
use Rattle.lane_session.proofs.Runs.{answered_so_far, answered_to_end, answered_within_budget, turned_behind}
use Rattle.lane_session.proofs.session.LaneSession.turn_behind.Goals as goal

pub returns-in-Line-clause-turns : goal.returns-in-Line-clause-turns
returns-in-Line-clause-turns g c budget left0 held0 s =
    let sends = rw c.text.ensures at c.send_reply.ensures.sends in
    turned_behind g.V.Replying.replies c.args.self.now.seat budget left0 _ _ held0 _ _ _ _ s _ (c.in-Line.ensures.told left0 budget s.lines s.told) (settled_by _ _ _ _ _ c.in-Line.ensures.next) c.in-Line.ensures.few _ (last_has _ _ c.value.ensures.last) _ sends _ c.ending_of.ensures

pub returns-in-Long-clause-turns : goal.returns-in-Long-clause-turns
returns-in-Long-clause-turns g c budget left0 held0 s =
    turned_behind g.V.Replying.replies c.args.self.now.seat budget left0 _ _ held0 _ _ _ _ s None (c.in-Long.ensures.told left0 budget s.lines s.told) (settled_by _ _ _ _ _ c.in-Long.ensures.next) c.in-Long.ensures.few _ (last_has _ _ c.value-in-Long.ensures.last) _ c.send_long.ensures.sends _ c.ending_of-in-Long.ensures

pub returns-in-End-clause-turns : goal.returns-in-End-clause-turns
returns-in-End-clause-turns g c budget left0 held0 s =
    answered_to_end (Answers g.V.Replying.replies c.args.self.now.seat.values c.args.self.now.seat.entered) budget left0 _ _ held0 _ _ _ behind s (c.in-End.ensures.told left0 budget s.lines s.told) c.in-End.ensures.next.stopped

pub returns-in-Failed-clause-turns : goal.returns-in-Failed-clause-turns
returns-in-Failed-clause-turns g c budget left0 held0 s =
    answered_so_far (Answers g.V.Replying.replies c.args.self.now.seat.values c.args.self.now.seat.entered) budget left0 _ _ held0 _ _ _ behind s (c.in-Failed.ensures.told left0 budget s.lines s.told) c.in-Failed.ensures.next.stopped.0 c.in-Failed.ensures.next.divided.1

pub returns-in-Over-clause-turns : goal.returns-in-Over-clause-turns
returns-in-Over-clause-turns g c budget left0 held0 s =
    answered_within_budget (Answers g.V.Replying.replies c.args.self.now.seat.values c.args.self.now.seat.entered) budget left0 _ _ held0 _ _ _ behind s (c.in-Over.ensures.told left0 budget s.lines s.told) c.in-Over.ensures.next.stopped.0 c.in-Over.ensures.next.divided.1 c.in-Over.ensures.next.stopped.1
