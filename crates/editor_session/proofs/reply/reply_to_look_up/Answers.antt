use Rattle.editor_session.proofs.reply.reply_to_look_up.Goals as goal

pub returns-in-Ok : goal.returns-in-Ok
returns-in-Ok c present stands = (rw (c.as_str.ensures, c.as_str-2.ensures) at c.in-Ok.ensures) present stands
