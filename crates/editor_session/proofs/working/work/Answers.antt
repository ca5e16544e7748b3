use denote.Param.Send.{sendable}
use Rattle.std.proofs.Crossing.{crosses, sync as heap_sync}
use Rattle.lane_session.proofs.lane.Lane.TheSendSync as lane
use Rattle.editor_session.proofs.Crossing.{version_send, version_sync}
use Rattle.editor_session.proofs.working.work.Goals as goal

pub join_mut-ending-requires-send-F : goal.join_mut-ending-requires-send-F
join_mut-ending-requires-send-F g c κs o =
    let sent_source = c.type_bounds.send-S in
    let sent_sink = c.type_bounds.send-K in
    let shared_runtime = c.type_bounds.sync-R in
    let shared_heap = heap_sync in
    let sent = version_send in
    let shared = version_sync in
    search (lane.the_send, crosses, sendable) depth 40
