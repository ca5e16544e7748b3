use Rattle.std.proofs.Common.{None, refl, subst, sym}
use Rattle.project_versions.specs.Versions.{Stands, VersionView}
use Rattle.editor_session.proofs.Publishing.{published_same}
use Rattle.editor_session.proofs.Replies.{request_as, request_edit, request_look_up}
use Rattle.editor_session.specs.declared.request.Request.TheVariants.{Commit}
use Rattle.editor_session.proofs.reply.reply_to.Goals as goal

pub returns-in-Edit-clause-replies : goal.returns-in-Edit-clause-replies
returns-in-Edit-clause-replies g c present versions stands published =
    let (new, stand, shown, replies) = c.reply_to_edit.ensures.replies present versions stands published in
    (new, stand, shown, request_edit present _ _ _ new _ _ c.in-Edit.is replies)

pub returns-in-LookUp-clause-replies : goal.returns-in-LookUp-clause-replies
returns-in-LookUp-clause-replies g c present versions stands published =
    let seen = subst (λ (v : VersionView). Stands v present) (sym c.deref.ensures) stands in
    (None, stands, published_same _ _ versions _ _ published refl refl, request_look_up present _ _ _ None _ _ _ _ c.in-LookUp.is (c.reply_to_look_up.ensures present seen) refl refl)

pub returns-in-Commit-clause-replies : goal.returns-in-Commit-clause-replies
returns-in-Commit-clause-replies g c present versions stands published =
    let (new, stand, shown, replies) = c.reply_to_commit.ensures.replies present versions stands published in
    (new, stand, shown, request_as present _ _ _ new _ Commit c.in-Commit.is replies)
