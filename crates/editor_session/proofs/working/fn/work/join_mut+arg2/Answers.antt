use denote.Param.Send.{sendable}
use Rattle.editor_session.proofs.Crossing.{version_send, version_sync}
use Rattle.editor_session.proofs.working.fn.work.join_mut+arg2.Goals as goal

pub answer_beside-requires-send-V : goal.answer_beside-requires-send-V
answer_beside-requires-send-V g c κs o = let s = version_send in search sendable depth 20

pub answer_beside-requires-sync-V : goal.answer_beside-requires-sync-V
answer_beside-requires-sync-V g c κs o = let s = version_sync in search sendable depth 20
