use Rattle.std.proofs.Common.{ap}
use Rattle.fsm_program.specs.Ends.{asked_of_name}
use Rattle.fsm_program.proofs.Unread.{unread_named}
use Rattle.fsm_program.proofs.words.of_name.Goals as goal

pub returns-in_err-look_up-in-Lines : goal.returns-in_err-look_up-in-Lines
returns-in_err-look_up-in-Lines c = unread_named _ _ _ _ _ c.from_residual.ensures.1 (ap (λ form. asked_of_name form c.args.name.now) c.in-Lines.is) tt

pub returns-in_err-net-in-Att : goal.returns-in_err-net-in-Att
returns-in_err-net-in-Att c = unread_named _ _ _ _ _ c.from_residual-in_err-net-in-Att.ensures.1 (ap (λ form. asked_of_name form c.args.name.now) c.in-Att.is) tt

pub returns-in_err-net-in-Pairs : goal.returns-in_err-net-in-Pairs
returns-in_err-net-in-Pairs c = unread_named _ _ _ _ _ c.from_residual-in_err-net-in-Pairs.ensures.1 (ap (λ form. asked_of_name form c.args.name.now) c.in-Pairs.is) tt
