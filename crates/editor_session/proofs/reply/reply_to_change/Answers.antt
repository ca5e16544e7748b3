use Rattle.std.proofs.Common.{None, Some, refl, sym, ap, subst, ◌∙◌}
use Rattle.project_versions.specs.Versions.{Stands, VersionView}
use Rattle.editor_meaning.specs.Editing.{accepted, no_memory}
use Rattle.editor_session.proofs.Publishing.{published_more, published_same}
use Rattle.editor_session.proofs.Replies.{accepted_bytes, error_reply}
use Rattle.editor_session.proofs.reply.reply_to_change.Goals as goal

pub returns-in-Ok-publish-clause-replies : goal.returns-in-Ok-publish-clause-replies
returns-in-Ok-publish-clause-replies g c present versions stands published =
    let seen = subst (λ (v : VersionView). Stands v present) (sym c.deref.ensures) stands in
    let (next, stand, changes, names) = c.in-Ok.ensures.edited present seen in
    let (more, is) = c.in-Ok-publish.ensures.published in (
      Some next,
      subst (λ (v : VersionView). Stands v next) (sym is) stand,
      published_more _ _ versions _ _ _ next published (ap (λ p. p.values) more) is stand,
      accepted next _ (c.in-Ok.ensures.few present seen) changes names (accepted_bytes _ _ _ _ _ c.in-Ok-accepted.ensures (c.number.ensures.number ∙ stand.number) c.deref-in-Ok.ensures.value) refl,
    )

pub returns-in-Ok-accepted-clause-replies : goal.returns-in-Ok-accepted-clause-replies
returns-in-Ok-accepted-clause-replies g c present versions stands published =
    let (editor, version) = c.in-Err-publish.ensures.none in
    (None, subst (λ v. Stands (v.value) present) (sym version) stands, published_same _ _ versions _ _ published (ap (λ p. p.values) editor) (ap (λ v. v.value) version), no_memory refl refl)

pub returns-in-Ok-clause-replies : goal.returns-in-Ok-clause-replies
returns-in-Ok-clause-replies g c present versions stands published = (None, stands, published_same _ _ versions _ _ published refl refl, no_memory refl refl)

pub returns-clause-replies : goal.returns-clause-replies
returns-clause-replies g c present versions stands published =
    let seen = subst (λ (v : VersionView). Stands v present) (sym c.deref.ensures) stands in
    (None, stands, published_same _ _ versions _ _ published refl refl, error_reply present _ c.in-Err.error _ (c.in-Err.ensures.error present seen) c.reply_to_error.ensures)
