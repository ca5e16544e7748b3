use Rattle.std.proofs.Common.{refl}
use Rattle.named_networks.specs.Responses.{response_of}
use Rattle.fsm_program.specs.Naming.{asked_in}
use Rattle.fsm_program.proofs.Endings.{most_read_is, ends_told, ends_unloaded, same_count}
use Rattle.fsm_program.proofs.Requests.{ends_without, loads_request}
use Rattle.fsm_program.proofs.naming.tell.Goals as goal

pub load-requires : goal.load-requires
load-requires g c = most_read_is

pub returns-in-Err-clause-ends : goal.returns-in-Err-clause-ends
returns-in-Err-clause-ends g c left input_faults = ends_unloaded _ (asked_in c.args.request) (loads_request c.args.request) _ _ _ c.in-Err.error c.in-Err.ensures.error c.load.ensures.later refl c.not_loaded.ensures.ends

pub returns-in-Ok-told_of-clause-ends : goal.returns-in-Ok-told_of-clause-ends
returns-in-Ok-told_of-clause-ends g c left input_faults =
    ends_told _ (asked_in c.args.request) _ _ _ c.in-Ok.ready (response_of c.in-Ok-told_of.told) c.in-Ok.ensures.loaded c.in-Ok.ensures.whole c.in-Ok-told_of.ensures refl c.say_told.ensures.said

pub returns-clause-ends : goal.returns-clause-ends
returns-clause-ends g c left input_faults = ends_without _ c.args.request _ _ (same_count _ _ c.load.ensures.later c.in-Ok.ensures.whole) refl refl
