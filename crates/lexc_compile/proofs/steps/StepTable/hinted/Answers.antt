use Rattle.std.proofs.Common.{sym}
use Rattle.lexc_compile.proofs.Looking.{step_noted}
use Rattle.lexc_compile.proofs.steps.StepTable.hinted.Goals as goal

pub returns-then-eq : goal.returns-then-eq
returns-then-eq c =
    rw (← c.self.view_is) (step_noted c.self.inside.states.entries c.args.step c.in_ok-noted.noted.now c.in_ok-noted.to.now _ (sym c.in_ok-noted.ensures.entry) (sym c.if-eq.ensures))
