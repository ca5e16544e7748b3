use Rattle.std.proofs.Common.{true}
use Rattle.editor_session.proofs.Hearing.{took_end, took_failed, took_line, took_no_long, took_over, took_unkept}
use Rattle.editor_session.proofs.payload.take_one.Goals as goal

pub returns-in-Ok-Line-clause-taken : goal.returns-in-Ok-Line-clause-taken
returns-in-Ok-Line-clause-taken g c left0 budget heard h = took_line left0 _ _ budget _ _ heard h c.in-Ok-Line.ensures.few _ _ _ _ _ c.in-Ok-Line.ensures.taken c.in-Ok-Line.field-0-is

pub returns-in-Ok-Long-clause-taken : goal.returns-in-Ok-Long-clause-taken
returns-in-Ok-Long-clause-taken g c left0 budget heard h = took_no_long left0 _ _ budget _ _ heard h c.in-Ok-Long.ensures.few _ _ _ _ c.in-Ok-Long.ensures.taken c.in-Ok-Long.field-0-is

pub returns-in-Ok-End-clause-taken : goal.returns-in-Ok-End-clause-taken
returns-in-Ok-End-clause-taken g c left0 budget heard h = took_end left0 _ _ budget _ _ heard h c.in-Ok-End.ensures.few _ _ _ true true _ c.in-Ok-End.ensures.taken c.in-Ok-End.field-0-is

pub returns-in-Ok-Failed-clause-taken : goal.returns-in-Ok-Failed-clause-taken
returns-in-Ok-Failed-clause-taken g c left0 budget heard h = took_failed left0 _ _ budget _ _ heard h c.in-Ok-Failed.ensures.few _ _ _ true true _ c.in-Ok-Failed.ensures.taken c.in-Ok-Failed.field-0-is

pub returns-in-Ok-Over-clause-taken : goal.returns-in-Ok-Over-clause-taken
returns-in-Ok-Over-clause-taken g c left0 budget heard h = took_over left0 _ _ budget _ _ heard h c.in-Ok-Over.ensures.few _ _ _ true true _ c.in-Ok-Over.ensures.taken c.in-Ok-Over.field-0-is

pub returns-in-Err-clause-taken : goal.returns-in-Err-clause-taken
returns-in-Err-clause-taken g c left0 budget heard h = took_unkept left0 _ _ budget _ _ heard h c.in-Err.ensures.few _ _ _ _ _ c.in-Err.ensures.taken
