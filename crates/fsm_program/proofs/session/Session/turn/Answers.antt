use Rattle.fsm_program.specs.Steps.{steps}
use Rattle.fsm_program.proofs.Runs.{sofar_flushed, flush_failed}
use Rattle.fsm_program.proofs.session.Session.turn.Goals as goal

pub returns-in-Ok-clause-turns : goal.returns-in-Ok-clause-turns
returns-in-Ok-clause-turns g c budget left0 held0 sofar =
    let turns = rw (c.in-Ok.ensures.same, c.in-Ok.ensures.lines) at c.answer_line.ensures.turns in
    turns budget left0 held0 (sofar_flushed (steps c.args.self.now.look_up) tt _ _ _ _ _ _ _ _ _ _ sofar c.in-Ok.ensures.bytes)

pub returns-in-Err-clause-turns : goal.returns-in-Err-clause-turns
returns-in-Err-clause-turns g c budget left0 held0 sofar =
    let failed = flush_failed (steps c.args.self.now.look_up) tt _ _ _ _ _ _ _ _ _ _ sofar c.in-Err.ensures.bytes in failed
