use Rattle.std.proofs.Common.{inl}
use Rattle.fsm_program.proofs.Endings.{start_most}
use Rattle.fsm_program.proofs.answering.answered.Goals as goal

pub answer_all-requires-clause-start : goal.answer_all-requires-clause-start
answer_all-requires-clause-start g c κs o = start_most c.in-Ok.lines c.in-Ok.ensures.start

pub returns-clause-answered : goal.returns-clause-answered
returns-clause-answered g c = inl (c.answer_all.result, c.status.ensures, c.answer_all.ensures.answered)
