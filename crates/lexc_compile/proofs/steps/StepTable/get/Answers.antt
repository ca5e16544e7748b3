use Rattle.std.proofs.Common.{ℕ, MatchOption, sym, subst, ◌∙◌}
use Rattle.std.specs.List.{Contains}
use Rattle.lexc_compile.proofs.Looking.{step_found}
use Rattle.lexc_compile.proofs.steps.StepTable.get.Goals as goal

pub returns-in-None : goal.returns-in-None
returns-in-None c =
    subst (λ rows. MatchOption c.copied.result ((to : ℕ) → Contains rows (c.args.step, to) → ⊥) (λ to. Contains rows (c.args.step, to))) c.self.view_is
    (subst (λ found. MatchOption found ((to : ℕ) → Contains c.self.inside.states.entries (c.args.step, to) → ⊥) (λ to. Contains c.self.inside.states.entries (c.args.step, to))) (sym (c.copied.ensures ∙ c.get.ensures.value))
    (step_found c.self.inside.states.entries c.args.step))
