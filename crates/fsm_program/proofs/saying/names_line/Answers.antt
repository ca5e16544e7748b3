use Rattle.std.proofs.Common.{◌≡◌, ℕ, List, Vec, Global, ap, ◌∙◌}
use Rattle.project_sources.specs.Sources.{project_in}
use Rattle.project_store.specs.Loaded.{AreNames}
use Rattle.reply_text.specs.Projects.{accepted_line}
use Rattle.fsm_program.proofs.Endings.{if_ok}
use Rattle.fsm_program.proofs.saying.names_line.Goals as goal

pub returns : goal.returns
returns c said from =
    if_ok (λ (text : Vec ℕ Global). text.items ≡ accepted_line c.args.version c.deref.result.now) (λ (text : Vec ℕ Global). (names : List (List ℕ)) × AreNames (project_in said) names × (text.items ≡ accepted_line c.args.version names))
    (λ text is. (c.in_ok-names.names.items, c.in_ok-names.ensures said from, is ∙ ap (λ (names : List (List ℕ)). accepted_line c.args.version names) c.deref.ensures.value)) _ c.accepted.ensures
