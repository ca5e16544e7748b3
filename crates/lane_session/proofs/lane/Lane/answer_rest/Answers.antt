use Rattle.std.proofs.Common.{◌≡◌, ◌∙◌, ap, rules}
use Rattle.lane_session.specs.Lanes.{Work}
use Rattle.lane_session.proofs.lane.Lane.answer_rest.Goals as goal

pub returns-in-Some : goal.returns-in-Some
returns-in-Some g c before stop has is =
    let had : c.in-Some.work ≡ before = search rules in
    rw (← c.self.view_is, c.in-Some.is, ← had) (c.answer_rest.ensures stop (ap (λ (w : Work g.row.V.Denot). w.stop) had ∙ is))
