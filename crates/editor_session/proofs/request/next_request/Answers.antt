use Rattle.editor_session.proofs.Hearing.{heard_line}
use Rattle.editor_session.proofs.Requests.{next_end, next_failed, next_line, next_long, next_over}
use Rattle.editor_session.proofs.request.next_request.Goals as goal

pub returns-in-Line-clause-next : goal.returns-in-Line-clause-next
returns-in-Line-clause-next g c left0 budget heard h =
    let e = c.in-Line.ensures.next in
    next_line left0 _ _ budget _ _ heard h _ _ e _ (c.followed.ensures.followed left0 budget _ (heard_line left0 _ _ budget _ _ heard h _ e tt c.in-Line.ensures.few))

pub returns-in-Long-clause-next : goal.returns-in-Long-clause-next
returns-in-Long-clause-next g c left0 budget heard h = next_long left0 _ _ budget _ _ heard h c.in-Long.ensures.next c.in-Long.ensures.few

pub returns-in-End-clause-next : goal.returns-in-End-clause-next
returns-in-End-clause-next g c left0 budget heard h = next_end left0 _ _ budget _ _ heard h c.in-End.ensures.next

pub returns-in-Failed-clause-next : goal.returns-in-Failed-clause-next
returns-in-Failed-clause-next g c left0 budget heard h = next_failed left0 _ _ budget _ _ heard h c.in-Failed.ensures.next

pub returns-in-Over-clause-next : goal.returns-in-Over-clause-next
returns-in-Over-clause-next g c left0 budget heard h = next_over left0 _ _ budget _ _ heard h c.in-Over.ensures.next
