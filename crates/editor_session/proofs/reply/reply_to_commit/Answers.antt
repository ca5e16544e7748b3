use Rattle.std.proofs.Common.{sym, ◌∙◌}
use Rattle.editor_session.proofs.Replies.{made_together}
use Rattle.editor_session.proofs.reply.reply_to_commit.Goals as goal

pub returns-in-Open-clause-replies : goal.returns-in-Open-clause-replies
returns-in-Open-clause-replies g c present versions stands published =
    let (new, stand, shown, replies) = c.reply_to_change.ensures.replies present versions stands published in
    (new, stand, shown, made_together present _ _ _ new c.in-Open.edits _ (sym c.replace.ensures.value ∙ c.in-Open.is) c.replace.ensures.after c.deref.ensures.value replies)
