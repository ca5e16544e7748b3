use Rattle.fsm_io.proofs.Pieces.{gathers_next, gathers_failed}
use Rattle.fsm_io.proofs.outbox.Outbox.put.Goals as goal

pub returns-in-Ok-clause-bytes : goal.returns-in-Ok-clause-bytes
returns-in-Ok-clause-bytes g c = gathers_next _ _ _ _ _ _ _ c.in-Ok.field-0 _ c.in-Ok.ensures.bytes c.in-Ok.ensures.empty c.put_first.ensures.bytes

pub returns-in-Err-clause-bytes : goal.returns-in-Err-clause-bytes
returns-in-Err-clause-bytes g c = gathers_failed _ _ _ _ _ _ c.in-Err.ensures.bytes
