use Rattle.std.proofs.Common.{sym, subst, ◌∙◌}
use Rattle.project_store.specs.Projects.{IsRead}
use Rattle.morph_c.proofs.filling.loaded.Goals as goal

pub of-requires : goal.of-requires
of-requires c =
    let (meant, stands, from) = c.in_ok-version.ensures.loaded in
    subst (λ files. IsRead files c.in_ok-project.project) (sym (stands.files ∙ from.files_are ∙ c.in_ok-copy.ensures.cases)) c.in_ok-project.ensures.project
