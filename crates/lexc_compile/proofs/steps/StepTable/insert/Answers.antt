use Rattle.std.proofs.Common.{◌∷◌, ◌++◌, [], ap, subst, ◌∙◌}
use Rattle.std.specs.List.{Contains}
use Rattle.indexmap.proofs.CallerLemmas.{insert_entry-new}
use Rattle.lexc_compile.specs.contracts.steps.StepPartialEq.TheImpl as step_eq
use Rattle.lexc_compile.proofs.Looking.{step_missing}
use Rattle.lexc_compile.proofs.steps.StepTable.insert.Goals as goal

pub returns : goal.returns
returns c =
    c.in_ok-insert.ensures.entries
    ∙ insert_entry-new (step_eq.eq-value).it c.self.inside.states c.args.step c.args.to
    (step_missing c.self.inside.states.entries c.args.step (λ to held. c.requires to (subst (λ rows. Contains rows (c.args.step, to)) c.self.view_is held)))
    ∙ ap (λ rows. rows ++ (c.args.step, c.args.to) ∷ []) c.self.view_is
