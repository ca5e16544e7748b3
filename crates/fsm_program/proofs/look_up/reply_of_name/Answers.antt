use Rattle.std.proofs.Common.{IfOk, sym, subst}
use Rattle.fsm_program.specs.Tasks.{RepliesToText}
use Rattle.fsm_program.specs.declared.look_up.Task.{Task}
use Rattle.fsm_program.proofs.look_up.reply_of_name.Goals as goal

pub returns-in-Words : goal.returns-in-Words
returns-in-Words c project shown =
    let network = c.args.network.now in
    subst (λ (t : Task). IfOk c.reply_to.result (λ bytes. RepliesToText t project network.glosses c.args.version network.name c.args.text.now bytes.items)) (sym c.in-Words.is) (c.reply_to.ensures project shown)
