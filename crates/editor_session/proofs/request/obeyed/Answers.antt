use Rattle.std.proofs.Common.{◌∙◌}
use Rattle.editor_session.specs.Reading.{all}
use Rattle.editor_session.proofs.Requests.{kept_so, obeys_cut, obeys_some, obeys_stopped}
use Rattle.editor_session.proofs.request.obeyed.Goals as goal

pub returns-in-Kept-clause-obeyed : goal.returns-in-Kept-clause-obeyed
returns-in-Kept-clause-obeyed g c left0 budget heard h =
    let t = c.in-Kept.ensures.taken left0 budget heard h in
    record { more = t.more; read = t.read; obeys = all (c.asked.ensures.asked t.more (t.is.0 ∙ c.lines_behind-count.ensures) (kept_so t.more _ t.is.2)) t.is.1 }

pub returns-in-Unkept-clause-obeyed : goal.returns-in-Unkept-clause-obeyed
returns-in-Unkept-clause-obeyed g c left0 budget heard h =
    let t = c.in-Unkept.ensures.taken left0 budget heard h in
    record { more = t.more; read = t.read; obeys = obeys_some c.args.command _ c.lines_behind-count.ensures t.more _ t.is.0 t.is.1 t.is.2 }

pub returns-in-Cut-clause-obeyed : goal.returns-in-Cut-clause-obeyed
returns-in-Cut-clause-obeyed g c left0 budget heard h =
    let t = c.in-Cut.ensures.taken left0 budget heard h in
    record { more = t.more; read = t.read; obeys = obeys_cut c.args.command _ c.lines_behind-count.ensures t.more _ t.is.1 t.is.0 }

pub returns-in-Stopped-clause-obeyed : goal.returns-in-Stopped-clause-obeyed
returns-in-Stopped-clause-obeyed g c left0 budget heard h =
    let t = c.in-Stopped.ensures.taken left0 budget heard h in
    record { more = t.more; read = t.read; obeys = obeys_stopped c.args.command _ c.lines_behind-count.ensures t.more _ c.in-Stopped.ending t.is.1 t.is.0 }
