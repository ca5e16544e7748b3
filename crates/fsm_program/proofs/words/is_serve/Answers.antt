use Rattle.fsm_program.proofs.Unread.{is_served}
use Rattle.fsm_program.proofs.words.is_serve.Goals as goal

pub returns-in-len2 : goal.returns-in-len2
returns-in-len2 c = rw (c.eq.ensures, c.as_str.ensures.value) (is_served c.args.words.now c.command-item.result c.in-len2.len_at_least c.in-len2.len_below c.command-item.is)
