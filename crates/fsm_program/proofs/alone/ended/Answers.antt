use Rattle.std.proofs.Common.{ap, refl}
use Rattle.fsm_program.proofs.Asking.{asked_none}
use Rattle.fsm_program.proofs.Endings.{ends_unread}
use Rattle.fsm_program.proofs.alone.ended.Goals as goal

pub returns-in-Err-clause-ends : goal.returns-in-Err-clause-ends
returns-in-Err-clause-ends g c =
    ends_unread _ _ c.in-Err.error _ _ _ c.in-Err.ensures refl refl c.not_read.ensures.said (λ other. let none = c.not_read.ensures.none other in (none.0, ap (λ o. g.O.Sink.held o) none.1))

pub returns-in-Err-clause-asked : goal.returns-in-Err-clause-asked
returns-in-Err-clause-asked g c = asked_none _ _ _
