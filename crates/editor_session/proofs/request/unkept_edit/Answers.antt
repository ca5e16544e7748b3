use Rattle.editor_session.proofs.Requests.{follows_cut, follows_stopped, follows_unkept}
use Rattle.editor_session.proofs.request.unkept_edit.Goals as goal

pub returns-in-Kept-clause-followed : goal.returns-in-Kept-clause-followed
returns-in-Kept-clause-followed g c left0 budget heard h kind =
    let t = c.in-Kept.ensures.taken left0 budget heard h in
    record { more = t.more; read = t.read; follows = follows_unkept _ t.more _ kind _ (rw c.text.ensures at c.command_lines-count.ensures) t.is.0 t.is.1 }

pub returns-in-Unkept-clause-followed : goal.returns-in-Unkept-clause-followed
returns-in-Unkept-clause-followed g c left0 budget heard h kind =
    let t = c.in-Unkept.ensures.taken left0 budget heard h in
    record { more = t.more; read = t.read; follows = follows_unkept _ t.more _ kind _ (rw c.text.ensures at c.command_lines-count.ensures) t.is.0 t.is.1 }

pub returns-in-Cut-clause-followed : goal.returns-in-Cut-clause-followed
returns-in-Cut-clause-followed g c left0 budget heard h kind =
    let t = c.in-Cut.ensures.taken left0 budget heard h in
    record { more = t.more; read = t.read; follows = follows_cut _ t.more _ kind _ (rw c.text.ensures at c.command_lines-count.ensures) t.is.1 t.is.0 }

pub returns-in-Stopped-clause-followed : goal.returns-in-Stopped-clause-followed
returns-in-Stopped-clause-followed g c left0 budget heard h kind =
    let t = c.in-Stopped.ensures.taken left0 budget heard h in
    record { more = t.more; read = t.read; follows = follows_stopped _ t.more _ kind _ (rw c.text.ensures at c.command_lines-count.ensures) c.in-Stopped.ending t.is.1 t.is.0 }
