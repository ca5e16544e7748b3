use Rattle.std.proofs.Common.{sym, ap, subst, ◌∙◌}
use Rattle.project_versions.specs.Versions.{Stands, VersionView}
use Rattle.morph_c.specs.Asking.{listed}
use Rattle.morph_c.proofs.replies.names_in.Goals as goal

pub returns-clause-reply : goal.returns-clause-reply
returns-clause-reply c = (
  c.in_ok-opened.opened.now,
  c.in_ok-opened.ensures.opened,
  (
    c.in_ok-names.names.items,
    c.in_ok-bytes.ensures ∙ ap listed c.deref.ensures.value,
    λ meant stands. c.in_ok-names.ensures meant (subst (λ (v : VersionView). Stands v meant) (sym c.version.ensures) stands),
  ),
)
