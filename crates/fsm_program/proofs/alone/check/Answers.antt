use Rattle.std.proofs.Common.{ap, refl}
use Rattle.fsm_program.specs.Ends.{for_check}
use Rattle.fsm_program.proofs.Endings.{ends_checked, ends_unloaded, most_read_is}
use Rattle.fsm_program.proofs.alone.check.Goals as goal

pub load-requires : goal.load-requires
load-requires g c = most_read_is

pub returns-in-Ok-clause-ends : goal.returns-in-Ok-clause-ends
returns-in-Ok-clause-ends g c left input_faults =
    ends_checked _ _ _ _ _ c.in-Ok.ensures.loaded c.in-Ok.ensures.whole c.load.ensures.later refl (λ is. ap (λ o. g.O.Sink.held o) (c.say_names.ensures.unwritten is)) (rw c.project.ensures at c.say_names.ensures.said)

pub returns-in-Err-clause-ends : goal.returns-in-Err-clause-ends
returns-in-Err-clause-ends g c left input_faults = ends_unloaded _ for_check tt _ _ _ c.in-Err.error c.in-Err.ensures.error c.load.ensures.later refl c.not_loaded.ensures.ends
