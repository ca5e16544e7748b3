use Rattle.editor_session.proofs.Replies.{made_alone}
use Rattle.editor_session.proofs.reply.reply_to_edit.Goals as goal

pub returns-in-NoBatch-clause-replies : goal.returns-in-NoBatch-clause-replies
returns-in-NoBatch-clause-replies g c present versions stands published =
    let (new, stand, shown, replies) = c.reply_to_change.ensures.replies present versions stands published in
    (new, stand, shown, made_alone present _ _ new c.in-NoBatch.is _ _ c.from_ref.ensures.value replies)
