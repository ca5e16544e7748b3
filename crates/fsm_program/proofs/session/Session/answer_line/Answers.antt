use Rattle.std.proofs.Common.{refl, None}
use Rattle.fsm_io.proofs.Streams.{settled_by}
use Rattle.fsm_program.specs.Steps.{steps}
use Rattle.fsm_program.proofs.Sending.{sends_as}
use Rattle.fsm_program.proofs.Tasks.{in_long}
use Rattle.fsm_program.proofs.Runs.{turn_sent, sofar_same}
use Rattle.fsm_program.proofs.session.Session.answer_line.Goals as goal

pub returns-in-Line-clause-turns : goal.returns-in-Line-clause-turns
returns-in-Line-clause-turns g c budget left0 held0 sofar =
    let sends = rw c.text.ensures at c.reply.ensures.sends in
    turn_sent (steps c.args.self.now.look_up) tt _ _ _ _ _ _ _ _ _ _ _ _ _ _ c.ending_of.ensures sofar tt (c.in-Line.ensures.told left0 budget sofar.lines sofar.told) (settled_by _ _ _ _ _ c.in-Line.ensures.next) c.in-Line.ensures.few sends

pub returns-in-Long-clause-turns : goal.returns-in-Long-clause-turns
returns-in-Long-clause-turns g c budget left0 held0 sofar =
    turn_sent (steps c.args.self.now.look_up) tt _ _ _ _ _ _ _ _ _ _ _ None _ _ c.ending_of-in-Long.ensures sofar tt (c.in-Long.ensures.told left0 budget sofar.lines sofar.told) (settled_by _ _ _ _ _ c.in-Long.ensures.next) c.in-Long.ensures.few
    (sends_as _ _ (in_long c.args.self.now.look_up.subject c.args.self.now.look_up.version) refl c.reply_long.ensures.bytes c.reply_long.ensures.few)

pub returns-in-End-clause-turns : goal.returns-in-End-clause-turns
returns-in-End-clause-turns g c budget left0 held0 sofar =
    (sofar_same (steps c.args.self.now.look_up) tt _ _ _ _ _ _ _ _ _ sofar (c.in-End.ensures.told left0 budget sofar.lines sofar.told) (settled_by _ _ _ _ _ c.in-End.ensures.next) c.in-End.ensures.few, c.in-End.ensures.next.stopped)

pub returns-in-Failed-clause-turns : goal.returns-in-Failed-clause-turns
returns-in-Failed-clause-turns g c budget left0 held0 sofar =
    (sofar_same (steps c.args.self.now.look_up) tt _ _ _ _ _ _ _ _ _ sofar (c.in-Failed.ensures.told left0 budget sofar.lines sofar.told) (settled_by _ _ _ _ _ c.in-Failed.ensures.next) c.in-Failed.ensures.few, c.in-Failed.ensures.next.stopped.0, c.in-Failed.ensures.next.divided.1)

pub returns-in-Over-clause-turns : goal.returns-in-Over-clause-turns
returns-in-Over-clause-turns g c budget left0 held0 sofar =
    (sofar_same (steps c.args.self.now.look_up) tt _ _ _ _ _ _ _ _ _ sofar (c.in-Over.ensures.told left0 budget sofar.lines sofar.told) (settled_by _ _ _ _ _ c.in-Over.ensures.next) c.in-Over.ensures.few, c.in-Over.ensures.next.stopped.0, c.in-Over.ensures.next.divided.1, c.in-Over.ensures.next.stopped.1)
