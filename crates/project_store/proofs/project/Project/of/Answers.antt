use Rattle.project_store.proofs.Named.{loaded_is}
use Rattle.std.proofs.Common.{◌∙◌, ap}
use Rattle.fsm_base.specs.Alphabet.{symbols_of}
use Rattle.project_model.proofs.Alphabets.{symbols_of-listed}
use Rattle.project_store.proofs.project.Project.of.Goals as goal

pub invariant_of-result : goal.invariant_of-result
invariant_of-result c =
    let is = rw c.symbols.ensures.symbols at c.in_ok-alphabet.ensures.alphabet in
    (c.symbols.ensures.formed, c.in_ok-alphabet.ensures.formed, ap symbols_of is ∙ symbols_of-listed c.args.table.now c.args.plan.symbols)

pub returns-clause-loaded : goal.returns-clause-loaded
returns-clause-loaded c said is sound =
    let alphabet = rw c.symbols.ensures.symbols at c.in_ok-alphabet.ensures.alphabet in
    loaded_is said c.args.plan c.args.table.now c.in_ok-alphabet.alphabet is sound c.symbols.ensures.formed alphabet c.in_ok-alphabet.ensures.formed
