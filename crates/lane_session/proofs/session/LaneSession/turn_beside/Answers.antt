use Rattle.std.proofs.Common.{sym, subst, None}
use Rattle.fsm_io.specs.Reading.{LinesView}
use Rattle.fsm_io.proofs.Streams.{settled_by}
use Rattle.lane_meaning.specs.Lanes.{beside}
use Rattle.lane_session.specs.Running.{StepsBeside, TurnsBeside}
use Rattle.lane_session.proofs.Runs.{answered_so_far, answered_to_end, answered_within_budget, turned}
use Rattle.lane_session.proofs.session.LaneSession.turn_beside.Goals as goal

pub returns-in-Line-clause-turns : goal.returns-in-Line-clause-turns
returns-in-Line-clause-turns g c budget left0 held0 s =
    subst (λ (l : LinesView). TurnsBeside g.V.Replying.replies c.answer_line.new.self.seat budget left0 (g.S.Source.left c.next.new.source) held0 (g.K.Sink.held c.answer_line.new.sink) l c.answer_line.result) (sym c.answer_line.ensures.lines)
    (turned g.V.Replying.replies _ _ budget left0 _ _ held0 _ _ _ _ s _ (c.in-Line.ensures.told left0 budget s.sofar.lines s.sofar.told) (settled_by _ _ _ _ _ c.in-Line.ensures.next) c.in-Line.ensures.few _ c.answer_line.ensures.answers)

pub returns-in-Long-clause-turns : goal.returns-in-Long-clause-turns
returns-in-Long-clause-turns g c budget left0 held0 s =
    subst (λ (l : LinesView). TurnsBeside g.V.Replying.replies c.answer_long.new.self.seat budget left0 (g.S.Source.left c.next.new.source) held0 (g.K.Sink.held c.answer_long.new.sink) l c.answer_long.result) (sym c.answer_long.ensures.lines)
    (turned g.V.Replying.replies _ _ budget left0 _ _ held0 _ _ _ _ s None (c.in-Long.ensures.told left0 budget s.sofar.lines s.sofar.told) (settled_by _ _ _ _ _ c.in-Long.ensures.next) c.in-Long.ensures.few _ c.answer_long.ensures.answers)

pub returns-in-End-clause-turns : goal.returns-in-End-clause-turns
returns-in-End-clause-turns g c budget left0 held0 s =
    answered_to_end (StepsBeside g.V.Replying.replies c.args.self.now.seat) budget left0 _ _ held0 _ _ _ (beside s.seen s.answered) s.sofar (c.in-End.ensures.told left0 budget s.sofar.lines s.sofar.told) c.in-End.ensures.next.stopped

pub returns-in-Failed-clause-turns : goal.returns-in-Failed-clause-turns
returns-in-Failed-clause-turns g c budget left0 held0 s =
    answered_so_far (StepsBeside g.V.Replying.replies c.args.self.now.seat) budget left0 _ _ held0 _ _ _ (beside s.seen s.answered) s.sofar (c.in-Failed.ensures.told left0 budget s.sofar.lines s.sofar.told) c.in-Failed.ensures.next.stopped.0 c.in-Failed.ensures.next.divided.1

pub returns-in-Over-clause-turns : goal.returns-in-Over-clause-turns
returns-in-Over-clause-turns g c budget left0 held0 s =
    answered_within_budget (StepsBeside g.V.Replying.replies c.args.self.now.seat) budget left0 _ _ held0 _ _ _ (beside s.seen s.answered) s.sofar (c.in-Over.ensures.told left0 budget s.sofar.lines s.sofar.told) c.in-Over.ensures.next.stopped.0 c.in-Over.ensures.next.divided.1 c.in-Over.ensures.next.stopped.1
